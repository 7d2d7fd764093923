use Rattle.std.proofs.Common.{ℕ, false, true, set, ◌<◌, ◌≤◌, length, ap, subst, sym, ◌∙◌, refl}
use Rattle.std.specs.Prelude.{pos}
use Rattle.plan_merge.specs.Choosing.{key_at, rank_of}
use Rattle.plan_merge.proofs.ChoosingLaws.{AreChosenSoFar, chosen-past, chosen-next}
use Rattle.plan_merge.proofs.choosing.chosen_by.Goals.{then-rank-keys, else-rank-keys}
use Rattle.plan_merge.proofs.choosing.chosen_by.Goals as goal

pub loop-turn-preserved : goal.loop-turn-preserved
loop-turn-preserved c = elim c.if-rank-keys.branch [
  | then-rank-keys w ↦
      let keys = c.args.keys.now in
      let rank = rank_of c.args.part c.loop-turn.turn in
      let some : rank < length keys = subst (λ (n : ℕ). n < length keys) c.rank_of-rank.ensures w.if-rank-keys.true in
      chosen-next keys c.args.part c.loop-turn.turn c.args.count c.loop-turn.chosen.items c.if-rank-keys.chosen.items (key_at keys rank).2 c.loop-turn.invariant some refl
      (c.requires.within rank (false, pos 0, 0) some) (ap (λ v. v.items) w.chosen-is ∙ ap (λ (n : ℕ). set c.loop-turn.chosen.items (key_at keys n).2 true) c.rank_of-rank.ensures)
  | else-rank-keys w ↦
      let past = subst (λ (n : ℕ). length c.args.keys.now ≤ n) c.rank_of-rank.ensures w.if-rank-keys.false in
      chosen-past c.args.keys.now c.args.part c.loop-turn.turn c.args.count c.if-rank-keys.chosen.items (subst (λ v. AreChosenSoFar c.args.keys.now c.args.part c.loop-turn.turn c.args.count v.items) (sym w.chosen-is) c.loop-turn.invariant) past
]
