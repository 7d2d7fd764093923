use Rattle.std.proofs.Common.{◌≡◌, arith, refl, sym, ap, subst, ◌∙◌}
use Rattle.plan_base.specs.Places.{places}
use Rattle.search_machine.specs.State.{State, round_of}
use Rattle.search_machine.specs.Machine.{IsReachable}
use Rattle.search_machine.proofs.Runs.{IsReachable-sound}
use Rattle.pool_core.proofs.Valuing.{gathered-some, read-price_list}
use Rattle.pool_core.proofs.Crowdings.{not_crowding, crowding-told}
use Rattle.std.specs.Prelude.{IsSome}
use Rattle.pool_core.proofs.pool.Pool.is_crowding.Goals as goal

pub round_at-requires : goal.round_at-requires
round_at-requires c = subst (λ (s : State). IsSome (round_of s c.args.node)) (sym c.view.ensures) (gathered-some c.args.self.now c.args.node c.requires.gathered)

pub are_crowd_prices-requires-clause-count : goal.are_crowd_prices-requires-clause-count
are_crowd_prices-requires-clause-count c =
    let sound = IsReachable-sound c.args.self.now (subst IsReachable c.self.view_is c.self.invariant.kept.pool.reachable) in
    let list = read-price_list c.args.self.now c.args.self.now c.args.node c.round_at.result.now c.prices.result.now sound c.requires.gathered refl (c.round_at.ensures ∙ ap (λ (s : State). round_of s c.args.node) c.view.ensures) c.prices.ensures in
    let is : places c.deref.result.now ≡ places c.args.self.now.problem = ap places (c.deref.ensures ∙ ap (λ (s : State). s.problem) c.self.view_is) in
    let count = list.count in
    omega arith

pub are_crowd_prices-requires-clause-crowd_count : goal.are_crowd_prices-requires-clause-crowd_count
are_crowd_prices-requires-clause-crowd_count c =
    let sound = IsReachable-sound c.args.self.now (subst IsReachable c.self.view_is c.self.invariant.kept.pool.reachable) in
    let list = read-price_list c.args.self.now c.args.self.now c.args.node c.round_at.result.now c.prices.result.now sound c.requires.gathered refl (c.round_at.ensures ∙ ap (λ (s : State). round_of s c.args.node) c.view.ensures) c.prices.ensures in
    c.requires.prices.count ∙ sym list.count

pub returns-then-are_crowd_prices-clause-value : goal.returns-then-are_crowd_prices-clause-value
returns-then-are_crowd_prices-clause-value c =
    crowding-told c.args.self.now c.args.node c.round_at.result.now c.prices.result.now c.args.prices.now c.deref.result.now (c.deref.ensures ∙ ap (λ (s : State). s.problem) c.self.view_is) (c.round_at.ensures ∙ ap (λ (s : State). round_of s c.args.node) c.view.ensures) c.prices.ensures
    c.is_none.result c.gain.result c.is_none.ensures (c.if-are_crowd_prices.ensures.0 refl) c.gain.ensures.some c.gain.ensures.none

pub returns-clause-value : goal.returns-clause-value
returns-clause-value c =
    not_crowding c.args.self.now c.args.node c.round_at.result.now c.prices.result.now c.args.prices.now c.deref.result.now (c.deref.ensures ∙ ap (λ (s : State). s.problem) c.self.view_is) (c.round_at.ensures ∙ ap (λ (s : State). round_of s c.args.node) c.view.ensures) c.prices.ensures
    (λ crowd. let bad = c.if-are_crowd_prices.ensures.1 crowd in absurd (cc))
