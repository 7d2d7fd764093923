use Rattle.std.proofs.Common.{◌≡◌, ◌≤◌, ◌*◌, if◌then◌else◌}
use Rattle.plan_base.specs.declared.limits.TheConstants.{CAPACITY_BOUND}
use Rattle.plan_base.specs.Sums.{sum_below}
use Rattle.proof_tree.specs.Cuts.{place_crosses, before_at}
use Rattle.proof_tree.proofs.cuts.crossing_before.Given as goal

-- the places before this one are added, each with a small capacity
abbrev pub invariant-loop-place : goal.invariant-loop-place
invariant-loop-place l =
    (l.total ≡ sum_below (λ q. if place_crosses l.inst l.cut.nodes q then before_at l.inst l.cut q else 0) l.place) × (l.total ≤ l.place * CAPACITY_BOUND)
