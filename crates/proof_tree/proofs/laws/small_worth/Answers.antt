use Rattle.proof_tree.proofs.RatedSizes.{cut_total-small, worth-small}
use Rattle.proof_tree.proofs.laws.small_worth.Goals as goal

pub returns : goal.returns
returns c = record { total = cut_total-small; worth = worth-small }
