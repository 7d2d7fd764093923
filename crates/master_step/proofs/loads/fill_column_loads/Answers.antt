use Rattle.std.proofs.Common.{sym, subst, arith}
use Rattle.plan_base.specs.declared.limits.TheConstants.{MAX_PLACES}
use Rattle.plan_base.specs.Walks.{HasPlacesOnce}
use Rattle.master_step.specs.Choosing.{allowed_of}
use Rattle.master_step.proofs.PlaceLoads.{places_once, puts-le}
use Rattle.master_step.proofs.loads.fill_column_loads.Goals as goal

pub add_load-requires-clause-once : goal.add_load-requires-clause-once
add_load-requires-clause-once c =
    subst (HasPlacesOnce c.args.inst.now MAX_PLACES) (sym c.as_slice.ensures.value) (places_once c.args.inst.now c.loop-place.place _ c.demands-place-end.ensures.lawful c.column-price.ensures.simple)

pub add_load-requires-clause-loads : goal.add_load-requires-clause-loads
add_load-requires-clause-loads c = λ q within.
    omega (arith, c.loop-place.invariant q within, puts-le c.args.inst.now (allowed_of c.args.source.now) c.args.prices.now q c.loop-place.place (omega arith), c.demands-place-end.ensures.lawful.total)

pub returns-clause-within : goal.returns-clause-within
returns-clause-within c = λ q within.
    omega (arith, c.loop-place.invariant q within, puts-le c.args.inst.now (allowed_of c.args.source.now) c.args.prices.now q c.loop-place.place (omega arith))
