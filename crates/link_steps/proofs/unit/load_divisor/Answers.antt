use Rattle.std.proofs.Common.{◌≡◌, ℕ, ◌<◌, subst, ap, arith, length}
use Rattle.plan_base.specs.declared.parts.Demand.{Demand}
use Rattle.plan_base.specs.Arcs.{demand_at}
use Rattle.link_steps.specs.Divisors.{IsCommonDivisor, IsDivisorBefore}
use Rattle.link_steps.proofs.DivisorLaws.{IsDivisorBefore-none, IsDivisorBefore-next, load-le-total}
use Rattle.link_steps.proofs.unit.load_divisor.Goals as goal

pub loop-place-init : goal.loop-place-init
loop-place-init c = record { divisor = IsDivisorBefore-none (λ k. (demand_at c.args.inst.now k).load); within = omega arith }

pub loop-place-preserved : goal.loop-place-preserved
loop-place-preserved c =
    let within : c.loop-place.place < length c.args.inst.now.demands = omega (arith, c.loop-place-test.true, c.demands-place-end.ensures.value) in
    let load = ap (λ (k : Demand). k.load) c.demand.ensures.value in
    record {
      divisor = IsDivisorBefore-next (λ k. (demand_at c.args.inst.now k).load) c.loop-place.place c.loop-place.divisor c.common_divisor-divisor.result c.loop-place.invariant.divisor
          (subst (λ (n : ℕ). IsCommonDivisor c.loop-place.divisor n c.common_divisor-divisor.result) load c.common_divisor-divisor.ensures.divisor);
      within = omega (arith, c.common_divisor-divisor.ensures.within, c.loop-place.invariant.within, load, load-le-total c.args.inst.now c.loop-place.place within, c.demands-place-end.ensures.lawful.total);
    }

pub returns-clause-divisor : goal.returns-clause-divisor
returns-clause-divisor c =
    let all : c.loop-place.place ≡ length c.args.inst.now.demands = omega (arith, c.loop-place-test.false, c.loop-place.auto.place-end, c.demands-place-end.ensures.value) in
    subst (λ (n : ℕ). IsDivisorBefore (λ k. (demand_at c.args.inst.now k).load) n c.loop-place.divisor) all c.loop-place.invariant.divisor
