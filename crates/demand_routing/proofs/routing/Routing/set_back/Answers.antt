use Rattle.std.proofs.Common.{List, sym, subst}
use Rattle.plan_base.specs.declared.ids.ArcId.{ArcId}
use Rattle.completions.specs.Completions.{ArePaths}
use Rattle.demand_routing.specs.Routings.{AreLoads}
use Rattle.demand_routing.proofs.ReroutingLaws.{paths_set}
use Rattle.demand_routing.proofs.RoutingLaws.{loads-same}
use Rattle.demand_routing.proofs.routing.Routing.set_back.Goals as goal

pub put_on-requires-clause-routing : goal.put_on-requires-clause-routing
put_on-requires-clause-routing c =
    let p = c.args.table.now in
    let k = c.args.demand.0 in
    let path = c.args.path.now in
    let are = c.take_off-fall.ensures.routing in
    let laid = c.take_off-fall.new.self.laid.items in
    let loads = c.take_off-fall.new.self.loads.value in
    let set = c.in_ok-set_path.ensures in
    record {
      paths = subst (ArePaths p) (sym set) (paths_set p c.take_off-fall.new.self.paths.items k path c.requires.demand are.paths c.requires.path);
      marks = are.marks;
      loads = subst (λ (ps : List (List ArcId)). AreLoads p ps laid loads) (sym set) (loads-same p c.take_off-fall.new.self.paths.items laid loads k path c.take_off-fall.ensures.off are.loads);
      held = are.held;
    }
