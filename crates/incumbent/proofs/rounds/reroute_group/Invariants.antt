use Rattle.demand_routing.specs.Routings.{IsRouting}
use Rattle.incumbent.proofs.rounds.reroute_group.Given as goal

abbrev pub invariant-loop-demand : goal.invariant-loop-demand
invariant-loop-demand l = IsRouting l.table l.routing
