use Rattle.std.proofs.Common.{◌<◌, length, rules, sym, arith}
use Rattle.search_nodes.proofs.FreeSlots.{none_free, named, named-more}
use Rattle.search_nodes.proofs.slot.first_free.Goals as goal

pub loop-slot-preserved : goal.loop-slot-preserved
loop-slot-preserved c =
    let within : c.loop-slot.slot < length c.args.places.now = search rules in
    named-more c.args.places.now c.loop-slot.slot c.loop-slot.invariant
    (named c.args.places.now c.loop-slot.slot c.index-places-slot.result within c.index-places-slot.is (sym c.if-is_free.ensures))

pub returns : goal.returns
returns c = absurd (let none = none_free c.args.places.now (λ k within. c.loop-slot.invariant k (omega arith)) in omega arith)
