use Rattle.cut_values.proofs.NoRates.{bound-both}
use Rattle.cut_values.proofs.laws.bound_without_rates.Goals as goal

pub returns : goal.returns
returns c = bound-both
