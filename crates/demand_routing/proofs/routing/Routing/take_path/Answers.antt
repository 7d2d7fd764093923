use Rattle.std.proofs.Common.{sym, subst}
use Rattle.plan_base.specs.Arcs.{demand_at}
use Rattle.plan_base.specs.Paths.{IsSimplePath}
use Rattle.demand_routing.proofs.ReroutingLaws.{paths_set}
use Rattle.demand_routing.proofs.RoutingLaws.{loads-same}
use Rattle.demand_routing.proofs.routing.Routing.take_path.Goals as goal

pub returns-clause-routing : goal.returns-clause-routing
returns-clause-routing c =
    let p = c.args.table.now in
    let k = c.args.demand.0 in
    let paths = c.args.self.now.paths.items in
    let are = c.requires.routing in
    let simple : IsSimplePath p (demand_at p k) c.swap.new.path = subst (IsSimplePath p (demand_at p k)) (sym c.swap.ensures.path) c.requires.simple in
    record {
      paths = paths_set p paths k c.swap.new.path c.requires.demand are.paths simple;
      marks = are.marks;
      loads = loads-same p paths c.args.self.now.laid.items c.args.self.now.loads.value k c.swap.new.path c.requires.off are.loads;
      held = are.held;
    }
