use Rattle.proof_tree.proofs.PlaceRates.{link_rates-lawful}
use Rattle.proof_tree.proofs.laws.link_rates.Goals as goal

pub returns : goal.returns
returns c = record {
  there = λ p e cuts prices rates are lawful within. (link_rates-lawful p e cuts prices rates are lawful within).there;
  back = λ p e cuts prices rates are lawful within. (link_rates-lawful p e cuts prices rates are lawful within).other;
}
