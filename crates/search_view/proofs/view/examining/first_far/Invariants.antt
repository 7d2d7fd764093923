use Rattle.std.proofs.Common.{◌<◌, ℕ}
use Rattle.arc_restrict.specs.Rows.{forbids}
use Rattle.proof_tree.specs.Evidence.{IsFar}
use Rattle.search_view.proofs.view.examining.first_far.Given as goal

-- no demand before this one is far
abbrev pub invariant-loop-place : goal.invariant-loop-place
invariant-loop-place l = (k : ℕ) → k < l.place → IsFar l.inst (forbids l.rows) k → ⊥
