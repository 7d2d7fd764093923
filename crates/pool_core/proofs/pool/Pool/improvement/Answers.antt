use Rattle.std.proofs.Common.{inl, inr, true, false, sym, subst, ◌∙◌, rules}
use Rattle.std.proofs.lemmas.Int.{to_z-of_z}
use mir.Syntax.{w128}
use mir.Val.{SFits}
use Rattle.search_machine.specs.State.{State}
use Rattle.search_machine.specs.Machine.{IsReachable}
use Rattle.search_machine.specs.Soundness.{IsSound}
use Rattle.search_machine.proofs.Runs.{IsReachable-sound}
use Rattle.search_view.specs.Valuing.{IsGatheredAt}
use Rattle.pool_core.proofs.Valuing.{gathered-some, if_some, if_none, read-price_list}
use Rattle.pool_core.proofs.Settlings.{gains-from, enough-read}
use Rattle.pool_core.proofs.pool.Pool.improvement.Goals as goal

pub returns-then-has_enough-clause-none : goal.returns-then-has_enough-clause-none
returns-then-has_enough-clause-none c = λ x round is_node is_round. inl (enough-read c.args.self.now c.view.result c.args.node true x c.view.ensures c.if-has_enough.ensures is_node)

pub returns-in_default-clause-none : goal.returns-in_default-clause-none
returns-in_default-clause-none c = λ x round is_node is_round. inr (if_none c.gain.result _ c.in_default.is c.gain.ensures.none x round is_node is_round)

pub round_at-requires : goal.round_at-requires
round_at-requires c = gathered-some c.view-view.result c.args.node (subst (λ (x : State). IsGatheredAt x c.args.node) (sym (c.view-view.ensures ∙ c.gain.ensures.unchanged)) c.requires)

pub value-old-requires-clause-gathered : goal.value-old-requires-clause-gathered
value-old-requires-clause-gathered c = subst (λ (x : State). IsGatheredAt x c.args.node) (sym (c.view-view.ensures ∙ c.gain.ensures.unchanged)) c.requires

pub value-old-requires-clause-prices : goal.value-old-requires-clause-prices
value-old-requires-clause-prices c =
    let sound : IsSound c.args.self.now = IsReachable-sound c.args.self.now (subst IsReachable c.self.view_is c.self.invariant.kept.pool.reachable) in
    read-price_list c.args.self.now c.view-view.result c.args.node c.round_at.result.now c.prices.result.now sound c.requires (c.view-view.ensures ∙ c.gain.ensures.unchanged) c.round_at.ensures c.prices.ensures

pub returns-clause-some : goal.returns-clause-some
returns-clause-some c =
    let old_fits : SFits w128 c.value-old.result = search rules in
    let new_fits : SFits w128 c.in-Some.new = search rules in
    λ x round is_node is_round. (
      enough-read c.args.self.now c.view.result c.args.node false x c.view.ensures c.if-has_enough.ensures is_node,
      rw (to_z-of_z w128 c.value-old.result old_fits, to_z-of_z w128 c.in-Some.new new_fits)
          (gains-from c.args.self.now c.view-view.result c.args.node c.round_at.result.now c.prices.result.now c.value-old.result c.in-Some.new (c.view-view.ensures ∙ c.gain.ensures.unchanged) c.round_at.ensures c.prices.ensures
          c.value-old.ensures (if_some c.gain.result c.in-Some.new _ c.in-Some.is c.gain.ensures.some) x round is_node is_round),
    )
