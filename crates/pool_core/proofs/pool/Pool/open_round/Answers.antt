use Rattle.search_nodes.specs.declared.slot.Slot.{Slot}
use Rattle.search_nodes.specs.declared.slot.Slot.TheVariants.{Free}
use Rattle.std.proofs.Common.{◌<◌, ◌+◌, ◌≤◌, List, length, rules, add-one, sym, subst, ◌∙◌}
use Rattle.std.specs.Prelude.{IfSome}
use Rattle.std.proofs.lemmas.Option.{slice_get_within}
use Rattle.pool_core.specs.contracts.pool.Pool.{the_view}
use Rattle.search_machine.specs.State.{State}
use Rattle.search_machine.specs.Opening.{Opens}
use Rattle.search_machine.specs.Changes.{TakesRound, with_node}
use Rattle.search_nodes.specs.Rounds.{MayComplete}
use Rattle.search_nodes.specs.Slots.{IsFirstFree}
use Rattle.pool_core.proofs.ReadTables.{as_read, as_kept}
use Rattle.pool_core.proofs.KeptRanges.{leaf-within, leaf-some, leaf-ranges}
use Rattle.pool_core.proofs.OpenPool.{may-open, opening-told, some_free, read-free, place-fits, version-small, slot-within, begun-limits, begun-ready, begun-takes, opens, opened-kept}
use Rattle.pool_core.proofs.pool.Pool.open_round.Goals as goal

pub first_free-slot-requires : goal.first_free-slot-requires
first_free-slot-requires c =
    let may = may-open _ _ _ _ _ c.self.view_is c.view.ensures c.open_refusal.ensures c.in_default.is in
    rw c.as_slice.ensures.value (some_free (the_view c.self.inside) c.self.inside.places.items c.args.node c.self.invariant.kept.pool may)

pub index_mut-free-requires : goal.index_mut-free-requires
index_mut-free-requires c =
    let first : IsFirstFree c.self.inside.places.items c.first_free-slot.result = subst (λ (xs : List Slot). IsFirstFree xs c.first_free-slot.result) c.as_slice.ensures.value c.first_free-slot.ensures in
    let within : c.first_free-slot.result < length c.self.inside.places.items = slice_get_within c.self.inside.places.items c.first_free-slot.result (Free first.place) first.is_free in
    search rules

pub unreachable-requires : goal.unreachable-requires
unreachable-requires c =
    let o = opening-told _ _ _ _ _ _ _ _ c.self.view_is c.view.ensures c.open_refusal.ensures c.in_default.is c.as_slice.ensures.value c.first_free-slot.ensures in
    read-free (the_view c.self.inside) c.self.inside.places.items c.args.node c.first_free-slot.result c.self.invariant.kept.pool o c.index_mut-free.result.now c.index_mut-free.ensures.value
    (λ place is. c.in_default-replace.not-Free place (c.replace.ensures.value ∙ is))

pub index_mut-opened-requires : goal.index_mut-opened-requires
index_mut-opened-requires c =
    let may = may-open _ _ _ _ _ c.self.view_is c.view.ensures c.open_refusal.ensures c.in_default.is in
    let within : c.args.node.0 < length c.self.inside.state.nodes.items = slice_get_within c.self.inside.state.nodes.items c.args.node.0 may.node may.is_node in
    search rules

pub begin-requires : goal.begin-requires
begin-requires c =
    let o = opening-told _ _ _ _ _ _ _ _ c.self.view_is c.view.ensures c.open_refusal.ensures c.in_default.is c.as_slice.ensures.value c.first_free-slot.ensures in
    place-fits (the_view c.self.inside) c.self.inside.places.items c.args.node c.first_free-slot.result c.self.invariant.kept.pool o
    c.index_mut-opened.result.now c.in-Free.place c.index_mut-free.result.now c.index_mut-opened.ensures.value c.index_mut-free.ensures.value (sym c.replace.ensures.value ∙ c.in-Free.is)

pub index-requires : goal.index-requires
index-requires c =
    let may = may-open _ _ _ _ _ c.self.view_is c.view.ensures c.open_refusal.ensures c.in_default.is in
    let within : c.args.node.0 < length c.self.inside.state.grounds.items = leaf-within (the_view c.self.inside) c.args.node c.self.inside.state.grounds.items c.self.invariant.kept.has_grounds may.node may.is_node may.undone in
    search rules

pub unwrap-ranges-requires : goal.unwrap-ranges-requires
unwrap-ranges-requires c =
    let may = may-open _ _ _ _ _ c.self.view_is c.view.ensures c.open_refusal.ensures c.in_default.is in
    leaf-some (the_view c.self.inside) c.args.node c.self.inside.state.grounds.items c.self.invariant.kept.has_grounds may.node may.is_node may.undone _ c.index.result.now c.index.ensures c.ranges-2.result c.ranges-2.ensures

pub complete-requires-clause-ranges : goal.complete-requires-clause-ranges
complete-requires-clause-ranges c =
    let o = opening-told _ _ _ _ _ _ _ _ c.self.view_is c.view.ensures c.open_refusal.ensures c.in_default.is c.as_slice.ensures.value c.first_free-slot.ensures in
    leaf-ranges (the_view c.self.inside) c.args.node c.self.inside.state.grounds.items c.self.invariant.kept.has_grounds o.may.node o.may.is_node o.may.undone _ c.index.result.now c.index.ensures c.ranges-2.result c.ranges-2.ensures c.unwrap-ranges.result
    c.deref.result.now c.deref-3.result.now c.begin.new.self c.unwrap-ranges.ensures c.deref.ensures c.deref-3.ensures
    (begun-limits (the_view c.self.inside) c.self.inside.places.items c.args.node c.first_free-slot.result c.self.invariant.kept.pool o
    c.index_mut-opened.result.now c.in-Free.place c.index_mut-free.result.now c.index_mut-opened.ensures.value c.index_mut-free.ensures.value
    (sym c.replace.ensures.value ∙ c.in-Free.is) c.begin.new.self c.begin.ensures)

pub complete-requires-clause-ready : goal.complete-requires-clause-ready
complete-requires-clause-ready c =
    let o = opening-told _ _ _ _ _ _ _ _ c.self.view_is c.view.ensures c.open_refusal.ensures c.in_default.is c.as_slice.ensures.value c.first_free-slot.ensures in
    as_read (λ p cuts. MayComplete p cuts c.begin.new.self) _ _ _ _ c.deref.ensures c.deref-2.ensures
    (begun-ready (the_view c.self.inside) c.self.inside.places.items c.args.node c.first_free-slot.result c.self.invariant.kept.pool o
    c.index_mut-opened.result.now c.in-Free.place c.index_mut-free.result.now c.index_mut-opened.ensures.value c.index_mut-free.ensures.value
    (sym c.replace.ensures.value ∙ c.in-Free.is) c.begin.new.self c.begin.ensures)

pub overflow_add-self : goal.overflow_add-self
overflow_add-self c =
    let o = opening-told _ _ _ _ _ _ _ _ c.self.view_is c.view.ensures c.open_refusal.ensures c.in_default.is c.as_slice.ensures.value c.first_free-slot.ensures in
    let small : c.self.inside.state.next_version ≤ 139282 = version-small (the_view c.self.inside) c.self.inside.places.items c.args.node c.first_free-slot.result c.self.invariant.kept.pool o in
    search rules

pub overflow_cast-result : goal.overflow_cast-result
overflow_cast-result c =
    let o = opening-told _ _ _ _ _ _ _ _ c.self.view_is c.view.ensures c.open_refusal.ensures c.in_default.is c.as_slice.ensures.value c.first_free-slot.ensures in
    let small : c.first_free-slot.result < 64 = slot-within (the_view c.self.inside) c.self.inside.places.items c.args.node c.first_free-slot.result c.self.invariant.kept.pool o in
    search rules

pub invariant_of-self : goal.invariant_of-self
invariant_of-self c = record {
  kept = (
      let o = opening-told _ _ _ _ _ _ _ _ c.self.view_is c.view.ensures c.open_refusal.ensures c.in_default.is c.as_slice.ensures.value c.first_free-slot.ensures in
      let takes = begun-takes (the_view c.self.inside) c.self.inside.places.items c.args.node c.first_free-slot.result c.self.invariant.kept.pool o
      c.index_mut-opened.result.now c.in-Free.place c.index_mut-free.result.now c.index_mut-opened.ensures.value c.index_mut-free.ensures.value
      (sym c.replace.ensures.value ∙ c.in-Free.is) c.begin.new.self c.begin.ensures c.complete.new.self
      (as_kept (λ p cuts. IfSome c.begin.new.self.round (λ r. TakesRound p cuts c.begin.new.self r c.complete.new.self)) _ _ _ _ c.deref.ensures c.deref-2.ensures c.complete.ensures) in
      opened-kept (the_view c.self.inside) c.self.inside.places.items c.args.node c.first_free-slot.result c.self.invariant.kept.pool o c.complete.new.self takes (c.self.inside.state.next_version + 1) (add-one c.self.inside.state.next_version) _ c.self.inside.state.grounds.items
      c.index_mut-opened.result.now c.replace.new.dest c.index_mut-opened.ensures.value c.replace.ensures.after c.self.invariant.kept
      );
  room_is = c.self.invariant.room_is;
}

pub returns : goal.returns
returns c =
    let o = opening-told _ _ _ _ _ _ _ _ c.self.view_is c.view.ensures c.open_refusal.ensures c.in_default.is c.as_slice.ensures.value c.first_free-slot.ensures in
    let takes = begun-takes (the_view c.self.inside) c.self.inside.places.items c.args.node c.first_free-slot.result c.self.invariant.kept.pool o
    c.index_mut-opened.result.now c.in-Free.place c.index_mut-free.result.now c.index_mut-opened.ensures.value c.index_mut-free.ensures.value
    (sym c.replace.ensures.value ∙ c.in-Free.is) c.begin.new.self c.begin.ensures c.complete.new.self
    (as_kept (λ p cuts. IfSome c.begin.new.self.round (λ r. TakesRound p cuts c.begin.new.self r c.complete.new.self)) _ _ _ _ c.deref.ensures c.deref-2.ensures c.complete.ensures) in
    record {
      event = subst (λ (s : State). Opens s c.args.node (record { slot = c.first_free-slot.result; version = c.self.inside.state.next_version })
          (record (the_view c.self.inside) { nodes = (with_node (the_view c.self.inside) c.args.node c.complete.new.self).nodes; next_version = c.self.inside.state.next_version + 1 })) c.self.view_is
          (opens (the_view c.self.inside) c.self.inside.places.items c.args.node c.first_free-slot.result c.self.invariant.kept.pool o c.complete.new.self takes (c.self.inside.state.next_version + 1) (add-one c.self.inside.state.next_version));
    }
