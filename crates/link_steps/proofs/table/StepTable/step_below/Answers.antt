use Rattle.std.proofs.Common.{arith}
use Rattle.link_steps.proofs.StepEnds.{IsStepEndBelow-before, EndsNoStep-before}
use Rattle.link_steps.proofs.table.StepTable.step_below.Goals as goal

pub returns-then-place-gt0-clause-end : goal.returns-then-place-gt0-clause-end
returns-then-place-gt0-clause-end c =
    IsStepEndBelow-before c.args.self.now c.args.link.0 c.steps_of_link-steps.result.now c.steps_of_link-steps.ensures c.args.load c.first_reaching-place.result c.requires.load c.if-place-gt0.true
    c.first_reaching-place.ensures.within c.first_reaching-place.ensures.before c.first_reaching-place.ensures.here

pub returns-else-place-gt0-clause-none : goal.returns-else-place-gt0-clause-none
returns-else-place-gt0-clause-none c =
    EndsNoStep-before c.args.self.now c.args.link.0 c.steps_of_link-steps.result.now c.steps_of_link-steps.ensures 0 c.args.load c.first_reaching-place.result c.requires.load
    (λ j before. absurd (omega (arith, before, c.if-place-gt0.false))) c.first_reaching-place.ensures.here
