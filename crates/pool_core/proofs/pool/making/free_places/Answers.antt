use Rattle.search_nodes.specs.declared.slot.Slot.{Slot}
use Rattle.std.proofs.Common.{◌+◌, List, length, sym, subst}
use Rattle.search_view.specs.Views.{AreFreePlaces}
use Rattle.pool_core.proofs.Making.{free_places-next}
use Rattle.pool_core.proofs.pool.making.free_places.Goals as goal

pub loop-slot-preserved : goal.loop-slot-preserved
loop-slot-preserved c =
    let p = c.args.inst.now in
    let width = length c.args.prices.now in
    subst (λ (slots : List Slot). AreFreePlaces (c.loop-slot.slot + 1) (length p.demands) width slots) (sym c.in_ok-push.ensures.items)
    (free_places-next c.loop-slot.slot (length p.demands) width c.loop-slot.slots.items c.in_ok-place.place c.loop-slot.invariant
    c.in_ok-place.ensures.slot c.in_ok-place.ensures.demands c.in_ok-place.ensures.prices)
