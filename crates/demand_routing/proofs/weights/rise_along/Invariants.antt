use Rattle.std.proofs.Common.{◌-◌, ◌^◌, take}
use Rattle.demand_routing.specs.Holding.{AreHeld}
use Rattle.demand_routing.specs.Traffic.{AreRises}
use Rattle.demand_routing.proofs.weights.rise_along.Given as goal

abbrev pub invariant-loop-arc : goal.invariant-loop-arc
invariant-loop-arc l = record {
  are_rises : AreRises l.table l.loads l.load (take l.arc-index l.arcs) (2 ^ 128 - 1) l.sum;
  held : AreHeld l.table l.helds;
}
