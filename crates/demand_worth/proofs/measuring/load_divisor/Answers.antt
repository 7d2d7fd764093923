use Rattle.std.proofs.Common.{◌≡◌, length, sym, rules, arith}
use Rattle.plan_base.specs.Arcs.{demand_at}
use Rattle.demand_worth.proofs.Divisors.{IsDivisorOf-next, IsDivisorOf-le-total, load_divisor-is}
use Rattle.demand_worth.proofs.measuring.load_divisor.Goals as goal

pub loop-place-preserved : goal.loop-place-preserved
loop-place-preserved c =
    let load : c.demand.result.now.load ≡ (demand_at c.args.inst.now c.loop-place.place).load = search rules in
    IsDivisorOf-next c.args.inst.now c.loop-place.place c.loop-place.divisor c.common_divisor-divisor.result c.demand.result.now.load load c.loop-place.invariant c.common_divisor-divisor.ensures

pub returns-clause-value : goal.returns-clause-value
returns-clause-value c =
    let all : c.loop-place.place ≡ length c.args.inst.now.demands = omega (arith, c.loop-place-test.false, c.loop-place.auto, c.demands-place-end.ensures.value) in
    sym (load_divisor-is c.args.inst.now c.loop-place.divisor (rw all at c.loop-place.invariant))

pub returns-clause-within : goal.returns-clause-within
returns-clause-within c =
    let all : c.loop-place.place ≡ length c.args.inst.now.demands = omega (arith, c.loop-place-test.false, c.loop-place.auto, c.demands-place-end.ensures.value) in
    omega (arith, IsDivisorOf-le-total c.args.inst.now c.loop-place.divisor (rw all at c.loop-place.invariant), c.demands-place-end.ensures.lawful.total)
