use Rattle.std.proofs.Common.{◌≡◌, ap, arith, rules}
use Rattle.plan_base.specs.declared.parts.Demand.{Demand}
use Rattle.bound_assembly.specs.RoundBounds.{length_of}
use Rattle.bound_assembly.proofs.SmallSums.{priced_within, lengths_next, length-le}
use Rattle.bound_assembly.proofs.totals.price_total.Goals as goal

pub overflow_mul-total : goal.overflow_mul-total
overflow_mul-total c =
    let found : c.unwrap_or.result ≡ length_of c.args.lengths.now c.loop-place.place = search rules in
    let small = lengths_next c.args.inst.now c.args.lengths.now c.loop-place.place _ _ _ c.requires.short c.requires.count (omega (arith, c.loop-place-test.true)) c.loop-place.invariant (ap (λ (k : Demand). k.load) c.demand.ensures.value) found in
    omega (arith, small)

pub overflow_add-total : goal.overflow_add-total
overflow_add-total c =
    let found : c.unwrap_or.result ≡ length_of c.args.lengths.now c.loop-place.place = search rules in
    let small = lengths_next c.args.inst.now c.args.lengths.now c.loop-place.place _ _ _ c.requires.short c.requires.count (omega (arith, c.loop-place-test.true)) c.loop-place.invariant (ap (λ (k : Demand). k.load) c.demand.ensures.value) found in
    omega (arith, small)

pub returns-clause-within : goal.returns-clause-within
returns-clause-within c =
    let within = priced_within c.args.inst.now (length_of c.args.lengths.now) c.loop-place.place (omega (arith, c.loop-place.auto.place-end, c.requires.count)) (λ k below. length-le c.args.inst.now c.args.lengths.now k c.requires.short (omega (arith, c.loop-place.auto.place-end))) in
    omega (arith, within, c.loop-place.invariant)
