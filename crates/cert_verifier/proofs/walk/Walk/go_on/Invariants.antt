use Rattle.std.proofs.Common.{◌≡◌, List, length, reverse}
use Rattle.verifier_paths.specs.Kept.{HasRows}
use Rattle.proof_tree.specs.Regions.{Region}
use Rattle.cert_verifier.specs.Walks.{region_of_marks, IsTreePlace, StandsAt}
use Rattle.cert_verifier.proofs.walk.Walk.go_on.Given as goal

-- what was left before is left still, above a turn or none
abbrev pub invariant-loop-turn : goal.invariant-loop-turn
invariant-loop-turn l = record {
  rows : HasRows l.against.inst.now l.self.forbidden;
  stands : StandsAt l.against.inst.now l.against.plan.now.tree (reverse l.self.turns.items) (region_of_marks l.self.forbidden l.self.ranges);
  left : (gs : List Region) → IsTreePlace l.against.inst.now l.against.plan.now.tree (reverse l.initial.self.turns.items) (region_of_marks l.initial.self.forbidden l.initial.self.ranges) gs
      → IsTreePlace l.against.inst.now l.against.plan.now.tree (reverse l.self.turns.items) (region_of_marks l.self.forbidden l.self.ranges) gs;
  least : l.self.least ≡ l.initial.self.least;
}

abbrev pub decreases-loop-turn : goal.decreases-loop-turn
decreases-loop-turn l = length l.self.turns.items
