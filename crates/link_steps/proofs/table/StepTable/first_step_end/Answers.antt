use Rattle.std.proofs.Common.{arith}
use Rattle.link_steps.proofs.StepEnds.{IsFirstStepEnd-reach, EndsNoStep-before}
use Rattle.link_steps.proofs.table.StepTable.first_step_end.Goals.{else-place-steps-via-then-place-steps+else-steps-place, else-place-steps-via-else-place-steps}
use Rattle.link_steps.proofs.table.StepTable.first_step_end.Goals as goal

pub returns-then-steps-place-clause-end : goal.returns-then-steps-place-clause-end
returns-then-steps-place-clause-end c =
    IsFirstStepEnd-reach c.args.self.now c.args.link.0 c.steps_of_link-steps.result.now c.steps_of_link-steps.ensures c.args.range.least c.args.range.most c.first_reaching-place.result c.requires.range
    c.if-place-steps.true c.first_reaching-place.ensures.before (c.first_reaching-place.ensures.here c.if-place-steps.true) c.if-steps-place.true

pub returns-else-place-steps-clause-none : goal.returns-else-place-steps-clause-none
returns-else-place-steps-clause-none c =
    EndsNoStep-before c.args.self.now c.args.link.0 c.steps_of_link-steps.result.now c.steps_of_link-steps.ensures c.args.range.least c.args.range.most c.first_reaching-place.result c.requires.range
    c.first_reaching-place.ensures.before
    (λ inside. elim c.else-place-steps.branch [
      | else-place-steps-via-then-place-steps+else-steps-place w ↦ w.if-steps-place.false
      | else-place-steps-via-else-place-steps w ↦ absurd (omega (arith, inside, w.if-place-steps.false))
    ])
