use Rattle.cut_values.proofs.StartBounds.{starts-bound, starts-opening}
use Rattle.cut_values.proofs.laws.start_bound.Goals as goal

pub returns : goal.returns
returns c = record { prices = starts-bound; opening = starts-opening }
