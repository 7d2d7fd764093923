use Rattle.std.proofs.Common.{ap, arith}
use Rattle.plan_base.specs.declared.parts.Demand.{Demand}
use Rattle.bound_assembly.proofs.SmallSums.{priced_within}
use Rattle.master_step.specs.Columns.{least_price}
use Rattle.master_step.specs.Choosing.{allowed_of}
use Rattle.master_step.proofs.SmallValues.{small_price, least_next}
use Rattle.master_step.proofs.valuing.column_total.Goals as goal

pub overflow_mul-total : goal.overflow_mul-total
overflow_mul-total c =
    let small = least_next c.args.inst.now c.args.source.now c.args.prices.now c.loop-place.place _ _ _ c.demands-place-end.ensures.lawful c.requires.price_limit c.requires.source c.requires.columns (omega arith) c.loop-place.invariant
    (ap (λ (k : Demand). k.load) c.demand.ensures.value) c.column-price.ensures.price in
    omega (arith, small)

pub overflow_add-total : goal.overflow_add-total
overflow_add-total c =
    let small = least_next c.args.inst.now c.args.source.now c.args.prices.now c.loop-place.place _ _ _ c.demands-place-end.ensures.lawful c.requires.price_limit c.requires.source c.requires.columns (omega arith) c.loop-place.invariant
    (ap (λ (k : Demand). k.load) c.demand.ensures.value) c.column-price.ensures.price in
    omega (arith, small)

pub returns-clause-within : goal.returns-clause-within
returns-clause-within c =
    let p = c.args.inst.now in
    let within = priced_within p (λ k. least_price c.args.inst.now c.args.prices.now (allowed_of c.args.source.now k)) c.loop-place.place (omega arith)
    (λ k below. small_price p c.args.source.now c.args.prices.now k c.demands-place-end.ensures.lawful c.requires.price_limit c.requires.source c.requires.columns (omega arith)) in
    omega (arith, within, c.loop-place.invariant)
