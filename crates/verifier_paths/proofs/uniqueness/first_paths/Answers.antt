use Rattle.std.proofs.Common.{arith}
use Rattle.verifier_paths.specs.Kept.{forbidden_by}
use Rattle.verifier_paths.proofs.LeftOut.{no_paths}
use Rattle.verifier_paths.proofs.uniqueness.first_paths.Goals as goal

pub returns-in-None-clause-none : goal.returns-in-None-clause-none
returns-in-None-clause-none c = no_paths c.args.inst.now (forbidden_by c.args.forbidden.now) c.loop-place.place (omega arith) (rw c.in-None.is at c.in_ok-path.ensures.none)
