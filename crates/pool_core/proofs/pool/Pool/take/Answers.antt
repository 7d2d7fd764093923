use Rattle.std.proofs.Common.{◌≡◌, ◌<◌, ◌+◌, ◌^◌, None, Some, length, rules, add-one, sym, subst}
use Rattle.std.proofs.lemmas.Option.{slice_get_within}
use Rattle.pool_core.specs.contracts.pool.Pool.{the_view}
use Rattle.std.specs.Prelude.{IfSome, IsSomeAnd, slice_get}
use Rattle.plan_base.specs.declared.parts.Parts.{Parts}
use Rattle.path_pricing.specs.Priced.{IsLeastPath}
use Rattle.search_machine.specs.State.{State, restriction_of}
use Rattle.search_machine.specs.Offering.{TakesCut, Accepts, with_found}
use Rattle.search_machine.specs.Changes.{TakesRound, with_node}
use Rattle.search_machine.specs.Nodes.{IsSoundNode}
use Rattle.search_machine.specs.Soundness.{IsSound}
use Rattle.search_machine.proofs.Runs.{IsReachable-sound}
use Rattle.pool_core.proofs.ReadTables.{as_read, as_kept}
use Rattle.pool_core.proofs.KeptRanges.{leaf-within, leaf-some, leaf-ranges}
use Rattle.pool_core.proofs.OfferPool.{may-offer, put-limits, offer-undone, put-sound, takes-cut, cut-kept, put-round, accepts, accepted-kept, accepted-small}
use Rattle.pool_core.proofs.pool.Pool.take.Goals as goal

pub index_mut-priced-requires : goal.index_mut-priced-requires
index_mut-priced-requires c =
    let s = the_view c.self.inside in
    let may = may-offer s _ c.args.offer c.self.invariant.kept.pool.reachable c.self.view_is c.requires in
    let within : c.args.offer.node.0 < length c.self.inside.state.nodes.items = slice_get_within c.self.inside.state.nodes.items c.args.offer.node.0 may.node may.fits.is_node in
    search rules

pub invariant_of-self : goal.invariant_of-self
invariant_of-self c = record {
  kept = (
      let s = the_view c.self.inside in
      let may = may-offer s _ c.args.offer c.self.invariant.kept.pool.reachable c.self.view_is c.requires in
      cut-kept s c.args.offer may c.index_mut-priced.result.now c.index_mut-priced.ensures.value c.in-NoPath.reached c.in-NoPath.is c.hold_cut.new.self c.hold_cut.ensures _ c.self.inside.state.grounds.items c.self.inside.places.items c.self.invariant.kept
      );
  room_is = c.self.invariant.room_is;
}

pub returns-in-NoPath : goal.returns-in-NoPath
returns-in-NoPath c =
    let s = the_view c.self.inside in
    let may = may-offer s _ c.args.offer c.self.invariant.kept.pool.reachable c.self.view_is c.requires in
    record {
      event = subst (λ (s : State). TakesCut s c.args.offer (with_node (the_view c.self.inside) c.args.offer.node c.hold_cut.new.self)) c.self.view_is
          (takes-cut s c.args.offer may c.index_mut-priced.result.now c.index_mut-priced.ensures.value c.in-NoPath.reached c.in-NoPath.is c.hold_cut.new.self c.hold_cut.ensures);
    }

pub index-requires : goal.index-requires
index-requires c =
    let s = the_view c.self.inside in
    let sound : IsSound s = IsReachable-sound s c.self.invariant.kept.pool.reachable in
    let may = may-offer s _ c.args.offer c.self.invariant.kept.pool.reachable c.self.view_is c.requires in
    let undone = offer-undone s c.args.offer may c.index_mut-priced.result.now c.index_mut-priced.ensures.value sound in
    let within : c.args.offer.node.0 < length c.self.inside.state.grounds.items = leaf-within s c.args.offer.node c.self.inside.state.grounds.items c.self.invariant.kept.has_grounds may.node may.fits.is_node undone in
    search rules

pub unwrap-ranges-requires : goal.unwrap-ranges-requires
unwrap-ranges-requires c =
    let s = the_view c.self.inside in
    let sound : IsSound s = IsReachable-sound s c.self.invariant.kept.pool.reachable in
    let may = may-offer s _ c.args.offer c.self.invariant.kept.pool.reachable c.self.view_is c.requires in
    let undone = offer-undone s c.args.offer may c.index_mut-priced.result.now c.index_mut-priced.ensures.value sound in
    leaf-some s c.args.offer.node c.self.inside.state.grounds.items c.self.invariant.kept.has_grounds may.node may.fits.is_node undone _ c.index.result.now c.index.ensures c.ranges-in-Path.result c.ranges-in-Path.ensures

pub put-left-requires-clause-ranges : goal.put-left-requires-clause-ranges
put-left-requires-clause-ranges c =
    let s = the_view c.self.inside in
    let sound : IsSound s = IsReachable-sound s c.self.invariant.kept.pool.reachable in
    let may = may-offer s _ c.args.offer c.self.invariant.kept.pool.reachable c.self.view_is c.requires in
    let undone = offer-undone s c.args.offer may c.index_mut-priced.result.now c.index_mut-priced.ensures.value sound in
    leaf-ranges s c.args.offer.node c.self.inside.state.grounds.items c.self.invariant.kept.has_grounds may.node may.fits.is_node undone _ c.index.result.now c.index.ensures c.ranges-in-Path.result c.ranges-in-Path.ensures c.unwrap-ranges.result
    c.deref.result.now c.deref-in-Path-2.result.now c.index_mut-priced.result.now c.unwrap-ranges.ensures c.deref.ensures c.deref-in-Path-2.ensures (put-limits s c.args.offer may c.index_mut-priced.result.now c.index_mut-priced.ensures.value)

pub put-left-requires-clause-sound : goal.put-left-requires-clause-sound
put-left-requires-clause-sound c =
    let s = the_view c.self.inside in
    let sound : IsSound s = IsReachable-sound s c.self.invariant.kept.pool.reachable in
    let may = may-offer s _ c.args.offer c.self.invariant.kept.pool.reachable c.self.view_is c.requires in
    as_read (λ p cuts. IsSoundNode p cuts c.index_mut-priced.result.now) _ _ _ _ c.deref.ensures c.deref-in-Path.ensures (put-sound s c.args.offer may c.index_mut-priced.result.now c.index_mut-priced.ensures.value sound)

pub put-left-requires-clause-round : goal.put-left-requires-clause-round
put-left-requires-clause-round c =
    let s = the_view c.self.inside in
    let may = may-offer s _ c.args.offer c.self.invariant.kept.pool.reachable c.self.view_is c.requires in
    subst (λ (p : Parts). IsSomeAnd c.index_mut-priced.result.now.round (λ round. (slice_get round.found c.args.offer.demand.0 ≡ Some None)
    × IsLeastPath p round.prices c.args.offer.demand.0 (restriction_of c.index_mut-priced.result.now) c.in-Path.path c.in-Path.length)) (sym c.deref.ensures)
    (put-round s c.args.offer may c.index_mut-priced.result.now c.index_mut-priced.ensures.value (record { path = c.in-Path.path; price = c.in-Path.length }) _ c.in-Path.is)

pub overflow_add-self : goal.overflow_add-self
overflow_add-self c =
    let s = the_view c.self.inside in
    let may = may-offer s _ c.args.offer c.self.invariant.kept.pool.reachable c.self.view_is c.requires in
    let takes = as_kept (λ p cuts. IfSome c.index_mut-priced.result.now.round (λ round. TakesRound p cuts c.index_mut-priced.result.now (with_found round c.args.offer.demand.0 (record { path = c.in-Path.path; price = c.in-Path.length })) c.put-left.new.self)) _ _ _ _
    c.deref.ensures c.deref-in-Path.ensures c.put-left.ensures.takes in
    let small : c.self.inside.state.accepted + 1 < 2 ^ 64 = accepted-small s c.args.offer may c.index_mut-priced.result.now c.index_mut-priced.ensures.value
    (record { path = c.in-Path.path; price = c.in-Path.length }) _ c.in-Path.is c.put-left.result
    (c.self.inside.state.accepted + 1) c.put-left.new.self c.put-left.ensures.left takes (add-one c.self.inside.state.accepted) c.self.inside.places.items c.self.invariant.kept.pool in
    search rules

pub invariant_of-self-in-Path : goal.invariant_of-self-in-Path
invariant_of-self-in-Path c = record {
  kept = (
      let s = the_view c.self.inside in
      let may = may-offer s _ c.args.offer c.self.invariant.kept.pool.reachable c.self.view_is c.requires in
      let takes = as_kept (λ p cuts. IfSome c.index_mut-priced.result.now.round (λ round. TakesRound p cuts c.index_mut-priced.result.now (with_found round c.args.offer.demand.0 (record { path = c.in-Path.path; price = c.in-Path.length })) c.put-left.new.self)) _ _ _ _
      c.deref.ensures c.deref-in-Path.ensures c.put-left.ensures.takes in
      accepted-kept s c.args.offer may c.index_mut-priced.result.now c.index_mut-priced.ensures.value
      (record { path = c.in-Path.path; price = c.in-Path.length }) _ c.in-Path.is c.put-left.result
      (c.self.inside.state.accepted + 1) c.put-left.new.self c.put-left.ensures.left takes (add-one c.self.inside.state.accepted) _ c.self.inside.state.grounds.items c.self.inside.places.items c.self.invariant.kept
      );
  room_is = c.self.invariant.room_is;
}

pub returns-in-Path : goal.returns-in-Path
returns-in-Path c =
    let s = the_view c.self.inside in
    let may = may-offer s _ c.args.offer c.self.invariant.kept.pool.reachable c.self.view_is c.requires in
    let takes = as_kept (λ p cuts. IfSome c.index_mut-priced.result.now.round (λ round. TakesRound p cuts c.index_mut-priced.result.now (with_found round c.args.offer.demand.0 (record { path = c.in-Path.path; price = c.in-Path.length })) c.put-left.new.self)) _ _ _ _
    c.deref.ensures c.deref-in-Path.ensures c.put-left.ensures.takes in
    record {
      event = subst (λ (s : State). Accepts s c.args.offer c.put-left.result (record (the_view c.self.inside) { nodes = (with_node (the_view c.self.inside) c.args.offer.node c.put-left.new.self).nodes; accepted = c.self.inside.state.accepted + 1 })) c.self.view_is
          (accepts s c.args.offer may c.index_mut-priced.result.now c.index_mut-priced.ensures.value
          (record { path = c.in-Path.path; price = c.in-Path.length }) _ c.in-Path.is c.put-left.result
          (c.self.inside.state.accepted + 1) c.put-left.new.self c.put-left.ensures.left takes (add-one c.self.inside.state.accepted));
    }
