use Rattle.std.proofs.Common.{◌≡◌, ℕ, ◌<◌, length, None, ap, subst, arith, rules}
use Rattle.plan_base.specs.declared.parts.Demand.{Demand}
use Rattle.verifier_paths.specs.Kept.{forbidden_by}
use Rattle.cert_verifier.proofs.PriceTotals.{ArePriced, price_at, priced_none, next_priced, priced-within, priced_all}
use Rattle.cert_verifier.proofs.bounds.price_total.Goals as goal

pub loop-place-init : goal.loop-place-init
loop-place-init c = priced_none c.args.inst.now (forbidden_by c.args.forbidden.now) c.args.prices.now

pub overflow_mul-total : goal.overflow_mul-total
overflow_mul-total c =
    let next = next_priced c.args.inst.now (forbidden_by c.args.forbidden.now) c.args.prices.now c.in_ok-found.found.items c.loop-place.place c.loop-place.total c.demand.result.now.load
    c.in-Some.price c.index.result.now (ap (λ (k : Demand). k.load) c.demand.ensures.value) (omega arith) c.in_ok-found.ensures c.index.ensures c.in-Some.is c.loop-place.invariant in
    omega (arith, next.1)

pub overflow_add-total : goal.overflow_add-total
overflow_add-total c =
    let next = next_priced c.args.inst.now (forbidden_by c.args.forbidden.now) c.args.prices.now c.in_ok-found.found.items c.loop-place.place c.loop-place.total c.demand.result.now.load
    c.in-Some.price c.index.result.now (ap (λ (k : Demand). k.load) c.demand.ensures.value) (omega arith) c.in_ok-found.ensures c.index.ensures c.in-Some.is c.loop-place.invariant in
    omega (arith, next.1)

pub returns-in-None-clause-none : goal.returns-in-None-clause-none
returns-in-None-clause-none c = λ have.
    let here : c.loop-place.place < length c.args.inst.now.demands = omega arith in
    let priced = price_at c.args.inst.now (forbidden_by c.args.forbidden.now) c.args.prices.now c.in_ok-found.found.items c.loop-place.place c.index.result.now None c.in_ok-found.ensures here c.index.ensures c.in-None.is in
    let path = have c.loop-place.place here in
    priced.is_least path.0 path.1

pub loop-place-preserved : goal.loop-place-preserved
loop-place-preserved c =
    let next = next_priced c.args.inst.now (forbidden_by c.args.forbidden.now) c.args.prices.now c.in_ok-found.found.items c.loop-place.place c.loop-place.total c.demand.result.now.load
    c.in-Some.price c.index.result.now (ap (λ (k : Demand). k.load) c.demand.ensures.value) (omega arith) c.in_ok-found.ensures c.index.ensures c.in-Some.is c.loop-place.invariant in
    next.0

pub returns-clause-total : goal.returns-clause-total
returns-clause-total c =
    let p = c.args.inst.now in
    let r = forbidden_by c.args.forbidden.now in
    let all : c.loop-place.place ≡ length p.demands = search rules in
    priced_all p r c.args.prices.now c.loop-place.total (subst (λ (n : ℕ). ArePriced p r c.args.prices.now n c.loop-place.total) all c.loop-place.invariant)

pub returns-clause-within : goal.returns-clause-within
returns-clause-within c =
    priced-within c.args.inst.now (forbidden_by c.args.forbidden.now) c.args.prices.now c.loop-place.place c.loop-place.total (omega arith) c.loop-place.invariant
