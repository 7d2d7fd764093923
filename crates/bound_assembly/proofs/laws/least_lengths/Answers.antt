use Rattle.bound_assembly.proofs.LeastLengths.{round_bound-bound}
use Rattle.bound_assembly.proofs.laws.least_lengths.Goals as goal

pub returns : goal.returns
returns c = round_bound-bound
