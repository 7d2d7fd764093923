use Rattle.std.proofs.Common.{max, ◌≡◌, ℕ, subst, arith}
use Rattle.link_steps.specs.Costs.{IsLeastModuleCost}
use Rattle.demand_routing.proofs.weights.least_cost.Goals as goal

pub returns-clause-some : goal.returns-clause-some
returns-clause-some c = λ _.
    let modules = c.in-Some.modules.cost in
    let larger : c.args.larger ≡ max c.args.larger c.args.smaller = omega (arith, c.requires.order) in
    let routed = rw (c.from.ensures, c.from-2.ensures, c.instance-inst.ensures.inst) at c.routing_cost.ensures.value in
    record {
      module_cost = modules;
      is_least = subst (λ (n : ℕ). IsLeastModuleCost c.args.table.now c.args.link.0 n modules) larger c.in-Some.ensures.least;
      is_sum = omega (arith, routed);
    }

pub returns-clause-within : goal.returns-clause-within
returns-clause-within c = λ _. omega (arith, c.routing_cost.ensures.within, c.in-Some.ensures.within)
