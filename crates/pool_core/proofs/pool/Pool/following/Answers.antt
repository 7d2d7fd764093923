use Rattle.std.proofs.Common.{◌≡◌, ℕ, ◌<◌, refl, sym, ap, subst, ◌∙◌, rules}
use Rattle.std.specs.Prelude.{IsSome}
use Rattle.std.proofs.lemmas.Int.{to_z-of_z}
use mir.Syntax.{w128}
use mir.Val.{SFits}
use Rattle.search_machine.specs.State.{State, round_of}
use Rattle.search_machine.specs.declared.limits.TheConstants.{MAX_ROUNDS}
use Rattle.search_machine.specs.Publishing.{publish_fault}
use Rattle.search_machine.specs.Machine.{IsReachable}
use Rattle.search_machine.specs.Soundness.{IsSound}
use Rattle.search_machine.proofs.Runs.{IsReachable-sound}
use Rattle.pool_core.proofs.Publishable.{HasFollowing, publish_fault-none, unrefused-prices, publish_fault-refusal}
use Rattle.pool_core.proofs.Renewing.{to_publish-some, to_publish-slot, to_publish-below}
use Rattle.pool_core.proofs.OnlyAnswers.{following-of, fault-no_success}
use Rattle.pool_core.proofs.Crowdings.{following-gathered, told-publish, no-gain}
use Rattle.pool_core.proofs.pool.Pool.following.Goals as goal

pub returns-in-Some-clause-refused : goal.returns-in-Some-clause-refused
returns-in-Some-clause-refused c = publish_fault-refusal c.args.self.now c.args.node c.args.seen c.args.prices.now c.in-Some.refusal (sym (c.publish_refusal.ensures ∙ ap (λ (s : State). publish_fault s c.args.node c.args.seen c.args.prices.now) c.view.ensures) ∙ c.in-Some.is)

pub returns-in-Some-clause-no_success : goal.returns-in-Some-clause-no_success
returns-in-Some-clause-no_success c = fault-no_success c.args.self.now c.args.node c.args.seen c.args.prices.now c.in-Some.refusal (sym (c.publish_refusal.ensures ∙ ap (λ (s : State). publish_fault s c.args.node c.args.seen c.args.prices.now) c.view.ensures) ∙ c.in-Some.is)

pub mark_after-requires-clause-gathered : goal.mark_after-requires-clause-gathered
mark_after-requires-clause-gathered c =
    following-gathered c.args.self.now c.args.node c.args.seen c.args.prices.now
    (publish_fault-none c.args.self.now c.args.node c.args.seen c.args.prices.now (unrefused-prices _ _ _ _ _ _ c.view.ensures c.publish_refusal.ensures c.in_default.is))

pub mark_after-requires-clause-prices : goal.mark_after-requires-clause-prices
mark_after-requires-clause-prices c =
    (publish_fault-none c.args.self.now c.args.node c.args.seen c.args.prices.now (unrefused-prices _ _ _ _ _ _ c.view.ensures c.publish_refusal.ensures c.in_default.is)).may.are_numbers

pub round_at-requires : goal.round_at-requires
round_at-requires c =
    let s = c.args.self.now in
    let to = told-publish _ s c.args.node c.args.seen c.args.prices.now _ c.in-Ok.crowd_tried c.view.ensures c.publish_refusal.ensures c.in_default.is c.in-Ok.ensures.follows in
    subst (λ (t : State). IsSome (round_of t c.args.node)) (sym (c.view-2.ensures ∙ c.mark_after.ensures.unchanged)) (to_publish-some s c.args.node c.args.seen c.args.prices.now c.in-Ok.crowd_tried to)

pub returns-clause-follows : goal.returns-clause-follows
returns-clause-follows c =
    let s = c.args.self.now in
    let to = told-publish _ s c.args.node c.args.seen c.args.prices.now _ c.in-Ok.crowd_tried c.view.ensures c.publish_refusal.ensures c.in_default.is c.in-Ok.ensures.follows in
    let slot = to_publish-slot s _ _ _ _ to _ _ (c.round_at.ensures ∙ ap (λ (t : State). round_of t c.args.node) (c.view-2.ensures ∙ c.mark_after.ensures.unchanged)) c.slot-slot.ensures in
    let version : c.self.inside.state.next_version ≡ s.next_version = ap (λ (t : State). t.next_version) (c.self.view_is ∙ c.mark_after.ensures.unchanged) in
    following-of s c.args.node c.args.seen c.args.prices.now _ (unrefused-prices _ _ _ _ _ _ c.view.ensures c.publish_refusal.ensures c.in_default.is) to slot version

pub returns-clause-slot : goal.returns-clause-slot
returns-clause-slot c =
    let s = c.args.self.now in
    let to = told-publish _ s c.args.node c.args.seen c.args.prices.now _ c.in-Ok.crowd_tried c.view.ensures c.publish_refusal.ensures c.in_default.is c.in-Ok.ensures.follows in
    let slot = to_publish-slot s _ _ _ _ to _ _ (c.round_at.ensures ∙ ap (λ (t : State). round_of t c.args.node) (c.view-2.ensures ∙ c.mark_after.ensures.unchanged)) c.slot-slot.ensures in
    let sound : IsSound s = IsReachable-sound s (subst IsReachable (c.self.view_is ∙ c.mark_after.ensures.unchanged) c.self.invariant.kept.pool.reachable) in
    subst (λ (n : ℕ). n < MAX_ROUNDS) (sym slot) (to_publish-below s c.args.node c.args.seen c.args.prices.now c.in-Ok.crowd_tried to sound)

pub returns-clause-count : goal.returns-clause-count
returns-clause-count c =
    (publish_fault-none c.args.self.now c.args.node c.args.seen c.args.prices.now (unrefused-prices _ _ _ _ _ _ c.view.ensures c.publish_refusal.ensures c.in_default.is)).may.are_numbers.count

pub returns-in-Err-clause-refused : goal.returns-in-Err-clause-refused
returns-in-Err-clause-refused c =
    let h : HasFollowing c.args.self.now c.args.node c.args.seen c.args.prices.now = publish_fault-none c.args.self.now c.args.node c.args.seen c.args.prices.now
    (unrefused-prices _ _ _ _ _ _ c.view.ensures c.publish_refusal.ensures c.in_default.is) in
    let old_fits : SFits w128 c.in-Err.old = search rules in
    let new_fits : SFits w128 c.in-Err.new = search rules in
    rw (to_z-of_z w128 c.in-Err.old old_fits, to_z-of_z w128 c.in-Err.new new_fits)
    (no-gain c.args.self.now c.args.self.now c.args.node c.args.seen c.args.prices.now c.in-Err.old c.in-Err.new h c.in-Err.ensures.no_gain refl)
