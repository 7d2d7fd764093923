use Rattle.bound_assembly.proofs.LeastLengths.{round_crowd-both}
use Rattle.bound_assembly.proofs.laws.least_crowds.Goals as goal

pub returns : goal.returns
returns c = round_crowd-both
