use Rattle.std.proofs.Common.{reverse}
use Rattle.verifier_paths.specs.Kept.{HasRows}
use Rattle.cert_verifier.specs.Walks.{region_of_marks}
use Rattle.cert_verifier.proofs.StepLaws.{IsSoFar}
use Rattle.cert_verifier.proofs.walk.walk_tree.Given as goal

abbrev pub invariant-loop-index : goal.invariant-loop-index
invariant-loop-index l = record {
  rows : HasRows l.against.inst.now l.walk.forbidden;
  so_far : IsSoFar l.against.inst.now l.against.plan.now l.index (reverse l.walk.turns.items) (region_of_marks l.walk.forbidden l.walk.ranges) l.walk.least;
}
