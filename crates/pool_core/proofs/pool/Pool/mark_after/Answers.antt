use Rattle.std.proofs.Common.{◌<◌, length, sym, subst, rules}
use Rattle.std.proofs.lemmas.Int.{to_z-of_z}
use mir.Syntax.{w128}
use mir.Val.{SFits}
use Rattle.pool_core.specs.contracts.pool.Pool.{the_view}
use Rattle.search_machine.specs.State.{State, round_of}
use Rattle.search_machine.specs.Machine.{IsReachable}
use Rattle.search_machine.specs.Soundness.{IsSound}
use Rattle.search_machine.proofs.Runs.{IsReachable-sound}
use Rattle.search_view.specs.Valuing.{IsGatheredAt}
use Rattle.search_view.proofs.Reading.{has-within}
use Rattle.search_view.proofs.Valuing.{gathered-round}
use Rattle.pool_core.proofs.Valuing.{gathered-some, read-price_list}
use Rattle.pool_core.proofs.Crowdings.{measured, greater-follows, crowd-follows, tried-no_gain, none-no_gain}
use Rattle.std.specs.Prelude.{IsSome}
use Rattle.cut_values.specs.Numbers.{AreNumbers}
use Rattle.pool_core.proofs.pool.Pool.mark_after.Goals as goal

pub index-requires : goal.index-requires
index-requires c =
    let s = the_view c.self.inside in
    let at : IsGatheredAt s c.args.node = subst (λ (x : State). IsGatheredAt x c.args.node) (sym c.self.view_is) c.requires.gathered in
    let within : c.args.node.0 < length c.self.inside.state.nodes.items = has-within s c.args.node (gathered-round s c.args.node at) in
    search rules

pub round_at-requires : goal.round_at-requires
round_at-requires c = subst (λ (s : State). IsSome (round_of s c.args.node)) (sym c.view-view.ensures) (gathered-some c.args.self.now c.args.node c.requires.gathered)

pub value-old-requires-clause-gathered : goal.value-old-requires-clause-gathered
value-old-requires-clause-gathered c = subst (λ (s : State). IsGatheredAt s c.args.node) (sym c.view-view.ensures) c.requires.gathered

pub value-old-requires-clause-prices : goal.value-old-requires-clause-prices
value-old-requires-clause-prices c =
    let sound : IsSound c.args.self.now = IsReachable-sound c.args.self.now (subst IsReachable c.self.view_is c.self.invariant.kept.pool.reachable) in
    read-price_list c.args.self.now c.view-view.result c.args.node c.round_at.result.now c.prices.result.now sound c.requires.gathered c.view-view.ensures c.round_at.ensures c.prices.ensures

pub value-new-requires-clause-gathered : goal.value-new-requires-clause-gathered
value-new-requires-clause-gathered c = subst (λ (s : State). IsGatheredAt s c.args.node) (sym c.view-view.ensures) c.requires.gathered

pub value-new-requires-clause-prices : goal.value-new-requires-clause-prices
value-new-requires-clause-prices c = subst (λ (s : State). AreNumbers s.problem s.cuts c.args.prices.now) (sym c.view-view.ensures) c.requires.prices

pub returns-then-is_less-clause-follows : goal.returns-then-is_less-clause-follows
returns-then-is_less-clause-follows c =
    let old_fits : SFits w128 c.value-old.result = search rules in
    let new_fits : SFits w128 c.value-new.result = search rules in
    let m = measured _ _ _ c.args.node _ _ _ c.args.prices.now c.value-old.result c.value-new.result _ _ c.self.view_is c.view-view.ensures c.index.ensures c.crowd_tried-tried.ensures c.round_at.ensures c.prices.ensures c.value-old.ensures c.value-new.ensures c.is_crowding-crowding.ensures.value in
    greater-follows _ _ _ _ _ _ _ m c.either.result (rw (to_z-of_z w128 c.value-old.result old_fits, to_z-of_z w128 c.value-new.result new_fits) at (sym c.if-is_less.ensures)) c.either.ensures

pub returns-then-tried-clause-no_gain : goal.returns-then-tried-clause-no_gain
returns-then-tried-clause-no_gain c =
    let old_fits : SFits w128 c.value-old.result = search rules in
    let new_fits : SFits w128 c.value-new.result = search rules in
    let m = measured _ _ _ c.args.node _ _ _ c.args.prices.now c.value-old.result c.value-new.result _ _ c.self.view_is c.view-view.ensures c.index.ensures c.crowd_tried-tried.ensures c.round_at.ensures c.prices.ensures c.value-old.ensures c.value-new.ensures c.is_crowding-crowding.ensures.value in
    rw (to_z-of_z w128 c.value-old.result old_fits, to_z-of_z w128 c.value-new.result new_fits)
    (tried-no_gain _ _ _ _ _ _ _ m (rw (to_z-of_z w128 c.value-old.result old_fits, to_z-of_z w128 c.value-new.result new_fits) at (sym c.if-is_less.ensures)) c.if-tried.true)

pub returns-then-crowding-clause-follows : goal.returns-then-crowding-clause-follows
returns-then-crowding-clause-follows c =
    let m = measured _ _ _ c.args.node _ _ _ c.args.prices.now c.value-old.result c.value-new.result _ _ c.self.view_is c.view-view.ensures c.index.ensures c.crowd_tried-tried.ensures c.round_at.ensures c.prices.ensures c.value-old.ensures c.value-new.ensures c.is_crowding-crowding.ensures.value in
    crowd-follows _ _ _ _ _ _ _ m c.if-tried.false c.if-crowding.true

pub returns-clause-no_gain : goal.returns-clause-no_gain
returns-clause-no_gain c =
    let old_fits : SFits w128 c.value-old.result = search rules in
    let new_fits : SFits w128 c.value-new.result = search rules in
    let m = measured _ _ _ c.args.node _ _ _ c.args.prices.now c.value-old.result c.value-new.result _ _ c.self.view_is c.view-view.ensures c.index.ensures c.crowd_tried-tried.ensures c.round_at.ensures c.prices.ensures c.value-old.ensures c.value-new.ensures c.is_crowding-crowding.ensures.value in
    rw (to_z-of_z w128 c.value-old.result old_fits, to_z-of_z w128 c.value-new.result new_fits)
    (none-no_gain _ _ _ _ _ _ _ m (rw (to_z-of_z w128 c.value-old.result old_fits, to_z-of_z w128 c.value-new.result new_fits) at (sym c.if-is_less.ensures)) c.if-crowding.false)
