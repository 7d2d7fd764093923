use Rattle.demand_routing.specs.Routings.{IsRouting}
use Rattle.incumbent.proofs.rounds.destroy.Given as goal

abbrev pub invariant-loop-demand : goal.invariant-loop-demand
invariant-loop-demand l = IsRouting l.table l.routing
