use Rattle.std.proofs.Common.{◌≡◌, inl, inr, true, false, sym, ap, subst, refl, ◌∙◌, ℕ, List, Some, ℤ, rules}
use Rattle.std.proofs.lemmas.Int.{to_z-of_z}
use mir.Syntax.{w128}
use mir.Val.{SFits}
use Rattle.search_nodes.specs.contracts.node.PoolNode.{the_view}
use Rattle.link_steps.specs.Ranges.{AreRanges}
use Rattle.search_machine.specs.State.{ranges_of, left_of}
use Rattle.search_machine.specs.Changes.{better_of}
use Rattle.search_nodes.specs.Rounds.{best_in, MayComplete}
use Rattle.search_nodes.proofs.Completing.{ready-short, ready-fits, rooms-kept, rooms-filled, none-left, completed-with, TakesRound-now}
use Rattle.search_nodes.proofs.node.PoolNode.complete.Goals as goal
use Rattle.search_nodes.proofs.node.PoolNode.complete.Goals.{then-is_crowded, else-is_crowded}

pub bound-requires-clause-ranges : goal.bound-requires-clause-ranges
bound-requires-clause-ranges c = subst (AreRanges c.args.inst.now) (sym c.requires.ranges) c.requires.ready.ranges

pub is_crowded-requires-clause-ranges : goal.is_crowded-requires-clause-ranges
is_crowded-requires-clause-ranges c = subst (AreRanges c.args.inst.now) (sym c.requires.ranges) c.requires.ready.ranges

pub bound-requires-clause-short : goal.bound-requires-clause-short
bound-requires-clause-short c =
    let ready : MayComplete c.args.inst.now c.args.table.now.cuts (the_view c.self.inside) = subst (MayComplete c.args.inst.now c.args.table.now.cuts) (sym c.self.view_is) c.requires.ready in
    ready-short c.args.inst.now c.args.table.now.cuts (the_view c.self.inside) c.in-Some.round c.in-Some.is c.lawful.ensures ready

pub is_crowded-requires-clause-short : goal.is_crowded-requires-clause-short
is_crowded-requires-clause-short c =
    let ready : MayComplete c.args.inst.now c.args.table.now.cuts (the_view c.self.inside) = subst (MayComplete c.args.inst.now c.args.table.now.cuts) (sym c.self.view_is) c.requires.ready in
    ready-short c.args.inst.now c.args.table.now.cuts (the_view c.self.inside) c.in-Some.round c.in-Some.is c.lawful.ensures ready

pub invariant_of-self : goal.invariant_of-self
invariant_of-self c =
    let ready : MayComplete c.args.inst.now c.args.table.now.cuts (the_view c.self.inside) = subst (MayComplete c.args.inst.now c.args.table.now.cuts) (sym c.self.view_is) c.requires.ready in
    let inside = c.self.inside in
    elim c.if-is_crowded.branch [
      | then-is_crowded w ↦ rw w.self-inside-is
          (rooms-filled inside.first_prices inside.best_prices c.keep_better.new.room w.prices-then-is_crowded.result.now inside.fate inside.crowd_prices w.fill.new.room
          c.self.invariant c.keep_better.ensures.room w.fill.ensures
          (ready-fits c.args.inst.now c.args.table.now.cuts (the_view c.self.inside) c.in-Some.round c.in-Some.is c.lawful.ensures ready w.prices-then-is_crowded.result.now w.prices-then-is_crowded.ensures))
      | else-is_crowded w ↦ rw w.self-inside-is
          (rooms-kept inside.first_prices inside.best_prices c.keep_better.new.room inside.fate inside.crowd_prices c.self.invariant c.keep_better.ensures.room)
    ]

pub returns : goal.returns
returns c =
    let ready : MayComplete c.args.inst.now c.args.table.now.cuts (the_view c.self.inside) = subst (MayComplete c.args.inst.now c.args.table.now.cuts) (sym c.self.view_is) c.requires.ready in
    let mine : c.args.ranges.now ≡ ranges_of c.args.inst.now (the_view c.self.inside) = c.requires.ranges ∙ ap (ranges_of c.args.inst.now) (sym c.self.view_is) in
    let fits : SFits w128 c.in-Some-bound.bound = search rules in
    let best : best_in c.keep_better.new.best c.keep_better.new.room ≡ Some (better_of (best_in c.self.inside.best_bound c.self.inside.best_prices) c.in-Some-bound.bound c.prices.result.now) =
    subst (λ (b : ℤ). best_in c.keep_better.new.best c.keep_better.new.room ≡ Some (better_of (best_in c.self.inside.best_bound c.self.inside.best_prices) b c.prices.result.now))
    (to_z-of_z w128 c.in-Some-bound.bound fits) c.keep_better.ensures.best in
    let none : left_of c.in-Some.round ≡ 0 = none-left c.in-Some-bound.bound (left_of c.in-Some.round) c.in-Some-bound.ensures.none in
    elim c.if-is_crowded.branch [
      | then-is_crowded w ↦ rw w.self-inside-is
          (TakesRound-now c.args.inst.now c.args.table.now.cuts (the_view c.self.inside) c.args.self.now c.in-Some.round _ c.self.view_is c.in-Some.is
          (completed-with c.args.inst.now c.args.table.now.cuts (the_view c.self.inside) c.in-Some.round c.in-Some.is c.lawful.ensures ready c.args.ranges.now c.in-Some-bound.bound c.prices.result.now _ w.fill.new.room mine c.prices.ensures none
          c.in-Some-bound.ensures.bound best
          (inl (c.is_crowded.ensures.0 w.if-is_crowded.true, w.fill.ensures ∙ ap (λ (ps : List ℕ). Some ps) w.prices-then-is_crowded.ensures))))
      | else-is_crowded w ↦ rw w.self-inside-is
          (TakesRound-now c.args.inst.now c.args.table.now.cuts (the_view c.self.inside) c.args.self.now c.in-Some.round _ c.self.view_is c.in-Some.is
          (completed-with c.args.inst.now c.args.table.now.cuts (the_view c.self.inside) c.in-Some.round c.in-Some.is c.lawful.ensures ready c.args.ranges.now c.in-Some-bound.bound c.prices.result.now _ (the_view c.self.inside).crowd mine c.prices.ensures none
          c.in-Some-bound.ensures.bound best
          (inr ((λ crowds. let bad : true ≡ false = sym (c.is_crowded.ensures.1 crowds) ∙ w.if-is_crowded.false in cc), refl))))
    ]
