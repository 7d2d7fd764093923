use Rattle.std.proofs.Common.{◌+◌, sym, subst, arith, rules}
use Rattle.std.proofs.lemmas.Int.{to_z-of_z}
use mir.Syntax.{w128}
use mir.Val.{SFits}
use Rattle.link_steps.specs.declared.reading.LinkValue.{LinkValue}
use Rattle.link_steps.specs.Candidates.{IsFirstLeast}
use Rattle.link_steps.specs.Tallies.{worth}
use Rattle.link_steps.proofs.FirstLeast.{IsFirstLeast-first, IsFirstLeast-kept, IsFirstLeast-taken}
use Rattle.link_steps.proofs.rated_value.first_rated.Goals.{then-is_less, else-is_less}
use Rattle.link_steps.proofs.rated_value.first_rated.Goals as goal

pub loop-place-init : goal.loop-place-init
loop-place-init c =
    IsFirstLeast-first c.args.link.now c.args.ranges (worth c.args.price c.args.there.now) (worth c.args.back_price c.args.back.now) c.args.steps.now c.args.from c.rated_candidate-best.result c.rated_candidate-best.ensures

pub loop-place-preserved : goal.loop-place-preserved
loop-place-preserved c =
    let there = worth c.args.price c.args.there.now in
    let back = worth c.args.back_price c.args.back.now in
    let other = c.rated_candidate-other.result in
    let best = c.loop-place.best in
    let other_fits : SFits w128 other.value = search rules in
    let best_fits : SFits w128 best.value = search rules in
    elim c.if-is_less.branch [
      | then-is_less w ↦
          subst (λ (b : LinkValue). IsFirstLeast c.args.link.now c.args.ranges there back c.args.steps.now c.args.from (c.loop-place.place + 1) b) (sym w.best-is)
          (IsFirstLeast-taken c.args.link.now c.args.ranges there back c.args.steps.now c.args.from c.loop-place.place best other c.rated_candidate-other.ensures
          (rw (to_z-of_z w128 other.value other_fits, to_z-of_z w128 best.value best_fits) at c.is_less.ensures.less w.if-is_less.true)
          (omega (arith, c.loop-place.invariant.enough, c.loop-place.invariant.below)) c.loop-place.invariant)
      | else-is_less w ↦
          subst (λ (b : LinkValue). IsFirstLeast c.args.link.now c.args.ranges there back c.args.steps.now c.args.from (c.loop-place.place + 1) b) (sym w.best-is)
          (IsFirstLeast-kept c.args.link.now c.args.ranges there back c.args.steps.now c.args.from c.loop-place.place best other c.rated_candidate-other.ensures
          (rw (to_z-of_z w128 other.value other_fits, to_z-of_z w128 best.value best_fits) at c.is_less.ensures.no_less w.if-is_less.false) c.loop-place.invariant)
    ]
