use Rattle.demand_routing.specs.Routings.{IsRouting}
use Rattle.incumbent.proofs.rounds.reroute_each.Given as goal

abbrev pub invariant-loop-place : goal.invariant-loop-place
invariant-loop-place l = IsRouting l.table l.routing
