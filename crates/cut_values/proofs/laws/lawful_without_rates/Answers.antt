use Rattle.cut_values.proofs.NoRates.{lawful-both}
use Rattle.cut_values.proofs.laws.lawful_without_rates.Goals as goal

pub returns : goal.returns
returns c = lawful-both
