use Rattle.std.proofs.Common.{◌+◌, sym, subst, arith, rules}
use Rattle.std.proofs.lemmas.Int.{to_z-of_z}
use mir.Syntax.{w128}
use mir.Val.{SFits}
use Rattle.link_steps.specs.declared.reading.LinkValue.{LinkValue}
use Rattle.link_steps.specs.Candidates.{IsFirstBest}
use Rattle.link_steps.proofs.FirstBest.{IsFirstBest-level, IsFirstBest-kept, IsFirstBest-taken}
use Rattle.link_steps.proofs.value.first_best.Goals.{then-is_less, else-is_less}
use Rattle.link_steps.proofs.value.first_best.Goals as goal

pub returns-then-is_level : goal.returns-then-is_level
returns-then-is_level c =
    IsFirstBest-level c.args.link.now c.args.ranges c.args.price c.args.back_price c.args.steps.now c.args.from c.args.to c.candidate-best.result (c.is_level.ensures.there c.if-is_level.true) (c.is_level.ensures.back c.if-is_level.true)
    c.requires.in_order c.requires.some c.requires.within c.candidate-best.ensures

pub loop-place-preserved : goal.loop-place-preserved
loop-place-preserved c =
    let other = c.candidate-other.result in
    let best = c.loop-place.best in
    let other_fits : SFits w128 other.value = search rules in
    let best_fits : SFits w128 best.value = search rules in
    elim c.if-is_less.branch [
      | then-is_less w ↦
          subst (λ (b : LinkValue). IsFirstBest c.args.link.now c.args.ranges c.args.price c.args.back_price c.args.steps.now c.args.from (c.loop-place.place + 1) b) (sym w.best-is)
          (IsFirstBest-taken c.args.link.now c.args.ranges c.args.price c.args.back_price c.args.steps.now c.args.from c.loop-place.place best other c.candidate-other.ensures
          (rw (to_z-of_z w128 other.value other_fits, to_z-of_z w128 best.value best_fits) at c.is_less.ensures.less w.if-is_less.true)
          (omega (arith, c.loop-place.invariant.enough, c.loop-place.invariant.below)) c.loop-place.invariant)
      | else-is_less w ↦
          subst (λ (b : LinkValue). IsFirstBest c.args.link.now c.args.ranges c.args.price c.args.back_price c.args.steps.now c.args.from (c.loop-place.place + 1) b) (sym w.best-is)
          (IsFirstBest-kept c.args.link.now c.args.ranges c.args.price c.args.back_price c.args.steps.now c.args.from c.loop-place.place best other c.candidate-other.ensures
          (rw (to_z-of_z w128 other.value other_fits, to_z-of_z w128 best.value best_fits) at c.is_less.ensures.no_less w.if-is_less.false) c.loop-place.invariant)
    ]
