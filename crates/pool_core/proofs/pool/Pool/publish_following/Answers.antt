use Rattle.std.proofs.Common.{ℕ, ◌<◌, ◌+◌, ◌≤◌, length, rules, add-one, sym, subst}
use Rattle.std.specs.Prelude.{IfSome}
use Rattle.std.specs.Arc.{arc_value}
use Rattle.pool_core.specs.contracts.pool.Pool.{the_view}
use Rattle.search_machine.specs.State.{State}
use Rattle.search_machine.specs.Changes.{TakesRound, with_node}
use Rattle.search_machine.specs.Publishing.{Publishes}
use Rattle.search_nodes.specs.Rounds.{MayComplete}
use Rattle.pool_core.specs.Foretold.{IsFollowing}
use Rattle.pool_core.proofs.ReadTables.{as_read, as_kept}
use Rattle.pool_core.proofs.KeptRanges.{leaf-within, leaf-some, leaf-ranges}
use Rattle.pool_core.proofs.Renewing.{to_publish-of, to_publish-at, renew-within, renew-small, renew-fits, renew-undone, renewed-limits, renewed-ready, renewed-takes, publishes, renewed-kept}
use Rattle.pool_core.proofs.pool.Pool.publish_following.Goals as goal

pub index_mut-renewed-requires : goal.index_mut-renewed-requires
index_mut-renewed-requires c =
    let s = the_view c.self.inside in
    let to = to_publish-at s _ _ _ _ _ c.self.view_is c.requires in
    let within : c.args.node.0 < length c.self.inside.state.nodes.items = renew-within s c.self.inside.places.items c.args.node c.args.seen c.args.prices.now c.args.next.crowd_tried c.self.invariant.kept.pool to in
    search rules

pub renew-requires : goal.renew-requires
renew-requires c =
    let s = the_view c.self.inside in
    let to = to_publish-at s _ _ _ _ _ c.self.view_is c.requires in
    renew-fits s c.self.inside.places.items c.args.node c.args.seen c.args.prices.now c.args.next.crowd_tried c.self.invariant.kept.pool to c.index_mut-renewed.result.now c.index_mut-renewed.ensures.value

pub index-requires : goal.index-requires
index-requires c =
    let s = the_view c.self.inside in
    let to = to_publish-at s _ _ _ _ _ c.self.view_is c.requires in
    let undone = renew-undone s c.self.inside.places.items c.args.node c.args.seen c.args.prices.now c.args.next.crowd_tried c.self.invariant.kept.pool to in
    let within : c.args.node.0 < length c.self.inside.state.grounds.items = leaf-within s c.args.node c.self.inside.state.grounds.items c.self.invariant.kept.has_grounds to.node to.may.is_gathered.complete_round.is_node undone in
    search rules

pub unwrap-ranges-requires : goal.unwrap-ranges-requires
unwrap-ranges-requires c =
    let s = the_view c.self.inside in
    let to = to_publish-at s _ _ _ _ _ c.self.view_is c.requires in
    let undone = renew-undone s c.self.inside.places.items c.args.node c.args.seen c.args.prices.now c.args.next.crowd_tried c.self.invariant.kept.pool to in
    leaf-some s c.args.node c.self.inside.state.grounds.items c.self.invariant.kept.has_grounds to.node to.may.is_gathered.complete_round.is_node undone _ c.index.result.now c.index.ensures c.ranges-2.result c.ranges-2.ensures

pub complete-requires-clause-ranges : goal.complete-requires-clause-ranges
complete-requires-clause-ranges c =
    let s = the_view c.self.inside in
    let to = to_publish-at s _ _ _ _ _ c.self.view_is c.requires in
    let undone = renew-undone s c.self.inside.places.items c.args.node c.args.seen c.args.prices.now c.args.next.crowd_tried c.self.invariant.kept.pool to in
    leaf-ranges s c.args.node c.self.inside.state.grounds.items c.self.invariant.kept.has_grounds to.node to.may.is_gathered.complete_round.is_node undone _ c.index.result.now c.index.ensures c.ranges-2.result c.ranges-2.ensures c.unwrap-ranges.result
    c.deref.result.now c.deref-3.result.now c.renew.new.self c.unwrap-ranges.ensures c.deref.ensures c.deref-3.ensures
    (renewed-limits s c.self.inside.places.items c.args.node c.args.seen c.args.prices.now c.args.next.crowd_tried c.self.invariant.kept.pool to c.index_mut-renewed.result.now c.index_mut-renewed.ensures.value c.renew.new.self c.renew.ensures)

pub complete-requires-clause-ready : goal.complete-requires-clause-ready
complete-requires-clause-ready c =
    let s = the_view c.self.inside in
    let to = to_publish-at s _ _ _ _ _ c.self.view_is c.requires in
    as_read (λ p cuts. MayComplete p cuts c.renew.new.self) _ _ _ _ c.deref.ensures c.deref-2.ensures
    (renewed-ready s c.self.inside.places.items c.args.node c.args.seen c.args.prices.now c.args.next.crowd_tried c.self.invariant.kept.pool to c.index_mut-renewed.result.now c.index_mut-renewed.ensures.value c.renew.new.self c.renew.ensures)

pub overflow_add-self : goal.overflow_add-self
overflow_add-self c =
    let s = the_view c.self.inside in
    let to = to_publish-at s _ _ _ _ _ c.self.view_is c.requires in
    let small : c.self.inside.state.next_version ≤ 139282 = renew-small s c.self.inside.places.items c.args.node c.args.seen c.args.prices.now c.args.next.crowd_tried c.self.invariant.kept.pool to in
    search rules

pub invariant_of-self : goal.invariant_of-self
invariant_of-self c =
    let s = the_view c.self.inside in
    let to = to_publish-at s _ _ _ _ _ c.self.view_is c.requires in
    let takes = renewed-takes s c.self.inside.places.items c.args.node c.args.seen c.args.prices.now c.args.next.crowd_tried c.self.invariant.kept.pool to c.index_mut-renewed.result.now c.index_mut-renewed.ensures.value c.renew.new.self c.renew.ensures c.complete.new.self
    (as_kept (λ p cuts. IfSome c.renew.new.self.round (λ r. TakesRound p cuts c.renew.new.self r c.complete.new.self)) _ _ _ _ c.deref.ensures c.deref-2.ensures c.complete.ensures) in
    record {
      kept = renewed-kept s c.self.inside.places.items c.args.node c.args.seen c.args.prices.now c.args.next.crowd_tried c.self.invariant.kept.pool to c.complete.new.self takes
          (c.self.inside.state.next_version + 1) (add-one c.self.inside.state.next_version) (arc_value c.self.inside.state.table) c.self.inside.state.grounds.items
          c.index_mut-renewed.result.now c.index_mut-renewed.ensures.value c.self.invariant.kept;
      room_is = c.self.invariant.room_is;
    }

pub returns : goal.returns
returns c =
    let s = the_view c.self.inside in
    let next : IsFollowing s c.args.node c.args.seen c.args.prices.now c.args.next = subst (λ (x : State). IsFollowing x c.args.node c.args.seen c.args.prices.now c.args.next) (sym c.self.view_is) c.requires in
    let to = to_publish-of s c.args.node c.args.seen c.args.prices.now c.args.next next in
    let takes = renewed-takes s c.self.inside.places.items c.args.node c.args.seen c.args.prices.now c.args.next.crowd_tried c.self.invariant.kept.pool to c.index_mut-renewed.result.now c.index_mut-renewed.ensures.value c.renew.new.self c.renew.ensures c.complete.new.self
    (as_kept (λ p cuts. IfSome c.renew.new.self.round (λ r. TakesRound p cuts c.renew.new.self r c.complete.new.self)) _ _ _ _ c.deref.ensures c.deref-2.ensures c.complete.ensures) in
    let event : Publishes s c.args.node c.args.seen c.args.prices.now c.args.next.slot c.args.next.version (record s { nodes = (with_node s c.args.node c.complete.new.self).nodes; next_version = c.self.inside.state.next_version + 1 }) =
    subst (λ (version : ℕ). Publishes s c.args.node c.args.seen c.args.prices.now c.args.next.slot version (record s { nodes = (with_node s c.args.node c.complete.new.self).nodes; next_version = c.self.inside.state.next_version + 1 })) (sym next.version_is)
    (publishes s c.self.inside.places.items c.args.node c.args.seen c.args.prices.now c.args.next.crowd_tried c.self.invariant.kept.pool to c.complete.new.self takes (c.self.inside.state.next_version + 1) (add-one c.self.inside.state.next_version) c.args.next.slot next.slot_is) in
    subst (λ (x : State). Publishes x c.args.node c.args.seen c.args.prices.now c.args.next.slot c.args.next.version
    (record (the_view c.self.inside) { nodes = (with_node (the_view c.self.inside) c.args.node c.complete.new.self).nodes; next_version = c.self.inside.state.next_version + 1 })) c.self.view_is event
