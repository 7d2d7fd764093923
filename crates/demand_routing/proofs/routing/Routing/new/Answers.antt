use Rattle.std.proofs.Common.{◌≡◌, false, List, Bool, subst, sym, arith, rules, replicate}
use Rattle.std.proofs.lemmas.List.{get_or-replicate}
use Rattle.plan_base.specs.declared.limits.TheConstants.{MAX_LINKS, MAX_PLACES}
use Rattle.demand_routing.specs.Holding.{AreHeld}
use Rattle.demand_routing.specs.Routings.{AreLoads}
use Rattle.demand_routing.proofs.HoldingLaws.{none-held}
use Rattle.demand_routing.proofs.RoutingLaws.{loads-none}
use Rattle.demand_routing.proofs.routing.Routing.new.Goals as goal

pub returns-clause-routing : goal.returns-clause-routing
returns-clause-routing c =
    let p = c.args.inst.now in
    let items : c.in_ok-vec.field-0.items ≡ replicate c.demands.result false = c.in_ok-vec.ensures.items_if_clones_equal (λ y is. search rules) in
    record {
      paths = c.requires;
      marks = omega (arith, c.in_ok-vec.ensures.len, c.demands.ensures.value);
      loads =
          subst (AreLoads p c.args.paths.items c.in_ok-vec.field-0.items) (sym c.in_ok-new.ensures.ok)
          (subst (λ (laid : List Bool). AreLoads p c.args.paths.items laid (replicate MAX_PLACES 0)) (sym items) (loads-none p c.args.paths.items c.demands.result (replicate MAX_PLACES 0) c.demands.ensures.value (λ e below. get_or-replicate MAX_PLACES e 0 0 below)));
      held = subst (AreHeld p) (sym c.in_ok-new-3.ensures.ok) (none-held p MAX_LINKS c.none.result c.none.ensures);
    }

pub returns-clause-off : goal.returns-clause-off
returns-clause-off c = λ k within.
    let items : c.in_ok-vec.field-0.items ≡ replicate c.demands.result false = c.in_ok-vec.ensures.items_if_clones_equal (λ y is. search rules) in
    rw items (get_or-replicate c.demands.result k false false (omega (arith, c.demands.ensures.value, within)))
