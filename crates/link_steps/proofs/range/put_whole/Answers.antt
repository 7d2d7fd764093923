use Rattle.std.proofs.Common.{arith}
use Rattle.link_steps.proofs.WholeRanges.{whole-put, whole-all}
use Rattle.link_steps.proofs.range.put_whole.Goals as goal

pub loop-place-init : goal.loop-place-init
loop-place-init c = record { count = c.requires; whole = λ q below. absurd (omega arith) }

pub loop-place-preserved : goal.loop-place-preserved
loop-place-preserved c =
    whole-put c.args.inst.now c.loop-place.place _ _ (omega (arith, c.loop-place-test.true, c.loop-place.auto.place-end, c.places-place-end.ensures.value)) c.whole_range.ensures c.loop-place.invariant

pub returns : goal.returns
returns c =
    whole-all c.args.inst.now _ c.loop-place.invariant.count
    (λ q below. c.loop-place.invariant.whole q (omega (arith, below, c.loop-place-test.false, c.places-place-end.ensures.value)))
