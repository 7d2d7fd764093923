use Rattle.std.proofs.Common.{ℕ, ◌≡◌, ◌<◌, ◌*◌, ◌-◌, slice_index, take}
use Rattle.plan_base.specs.declared.limits.TheConstants.{MAX_PLACES}
use Rattle.demand_routing.specs.Traffic.{arcs_along}
use Rattle.demand_routing.proofs.loads.remove_load.Given as goal

abbrev pub invariant-loop-arc : goal.invariant-loop-arc
invariant-loop-arc l = (q : ℕ) → q < MAX_PLACES → slice_index l.loads q ≡ slice_index l.initial.loads q - arcs_along l.inst q (take l.arc-index l.arcs) * l.load
