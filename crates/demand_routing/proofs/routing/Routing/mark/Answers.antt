use Rattle.std.proofs.Common.{◌≡◌, ◌∙◌, ◌<◌, [], length, subst, sym, ap, arith}
use Rattle.std.proofs.Math.ListN.{length-set}
use Rattle.std.proofs.lemmas.List.{get_or_default}
use Rattle.plan_base.specs.declared.parts.Demand.{Demand}
use Rattle.plan_base.specs.Arcs.{demand_at}
use Rattle.plan_base.specs.Designs.{path_at}
use Rattle.completions.specs.Completions.{with_paths}
use Rattle.demand_routing.specs.Routings.{AreLoads}
use Rattle.demand_routing.proofs.RoutingLaws.{loads-changed}
use Rattle.demand_routing.proofs.routing.Routing.mark.Goals as goal

pub returns-clause-routing : goal.returns-clause-routing
returns-clause-routing c =
    let p = c.args.table.now in
    let k = c.args.demand.0 in
    let paths = c.args.self.now.paths.items in
    let laid = c.args.self.now.laid.items in
    let are = c.requires.routing in
    let load : c.demand.result.now.load ≡ (demand_at p k).load = ap (λ (d : Demand). d.load) (rw c.instance-inst.ensures.inst at c.demand.ensures.value) in
    let has_path : k < length paths = omega (arith, c.requires.demand, are.paths.count) in
    let path : c.as_slice.result.now ≡ path_at (with_paths paths) k = c.as_slice.ensures.value ∙ c.index.ensures ∙ get_or_default paths k c.index.result.now [] has_path in
    let loads : AreLoads p paths laid c.deref_mut.result.now = subst (AreLoads p paths laid) (sym c.deref_mut.ensures.value) are.loads in
    record {
      paths = are.paths;
      marks = length-set laid k c.args.laid ∙ are.marks;
      loads = loads-changed p paths laid c.deref_mut.result.now c.change_load.new.loads k c.demand.result.now.load c.as_slice.result.now (rw c.instance-inst.ensures.inst at c.lawful.ensures) are.paths c.requires.demand are.marks load path loads
          c.args.laid c.requires.other (rw c.instance-inst.ensures.inst at c.change_load.ensures);
      held = are.held;
    }
