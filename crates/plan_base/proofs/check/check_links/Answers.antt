use Rattle.std.proofs.Common.{◌≡◌, ◌<◌, ℕ, slice_index, refl, arith}
use Rattle.plan_base.specs.Places.{places}
use Rattle.plan_base.specs.Designs.{load_at}
use Rattle.plan_base.proofs.PlaceSums.{there-same, back-same, places-few}
use Rattle.plan_base.proofs.check.check_links.Goals as goal

pub check_link-requires-clause-need : goal.check_link-requires-clause-need
check_link-requires-clause-need c =
    let p = c.args.inst.now in
    let same : (q : ℕ) → q < places p → slice_index c.args.loads.now q ≡ load_at p c.args.design.now q = λ q within. c.requires.loads q (omega (arith, within, places-few p c.links-place-end.ensures.lawful)) in
    rw (c.of_link.ensures.there, c.of_link.ensures.back, there-same p (slice_index c.args.loads.now) (load_at p c.args.design.now) c.loop-place.place (omega arith) same, back-same p (slice_index c.args.loads.now) (load_at p c.args.design.now) c.loop-place.place (omega arith) same) refl
