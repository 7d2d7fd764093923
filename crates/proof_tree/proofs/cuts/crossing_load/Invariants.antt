use Rattle.std.proofs.Common.{◌≡◌, if◌then◌else◌}
use Rattle.plan_base.specs.Sums.{sum_below}
use Rattle.plan_base.specs.Arcs.{demand_at}
use Rattle.proof_tree.specs.Cuts.{demand_crosses}
use Rattle.proof_tree.proofs.cuts.crossing_load.Given as goal

-- the demands before this one are added
abbrev pub invariant-loop-place : goal.invariant-loop-place
invariant-loop-place l = l.total ≡ sum_below (λ k. if demand_crosses l.inst l.nodes k then (demand_at l.inst k).load else 0) l.place
