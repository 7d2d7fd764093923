use Rattle.demand_routing.specs.Routings.{IsRouting}
use Rattle.incumbent.proofs.negotiating.Negotiation.settle.Given as goal

abbrev pub invariant-loop-round : goal.invariant-loop-round
invariant-loop-round l = IsRouting l.table l.self.routing
