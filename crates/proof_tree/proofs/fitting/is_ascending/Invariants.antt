use Rattle.std.proofs.Common.{ℕ, suc, ◌<◌}
use Rattle.plan_base.specs.Paths.{arc_at}
use Rattle.proof_tree.proofs.fitting.is_ascending.Given as goal

-- up to this place each arc has a greater number than the one before it
abbrev pub invariant-loop-place : goal.invariant-loop-place
invariant-loop-place l = (i : ℕ) → suc i < l.place → (arc_at l.arcs i).0 < (arc_at l.arcs (suc i)).0
