use Rattle.demand_routing.specs.Routings.{IsRouting}
use Rattle.incumbent.proofs.rounds.touch_up.Given as goal

abbrev pub invariant-loop-turn : goal.invariant-loop-turn
invariant-loop-turn l = IsRouting l.table l.routing
