use Rattle.plan_base.specs.Arcs.{link_at}
use Rattle.plan_base.specs.Facts.{total_load}
use Rattle.link_steps.proofs.Reached.{first-least}
use Rattle.link_steps.proofs.table.StepTable.at_near.Goals as goal

pub returns-then-place-steps-clause-least : goal.returns-then-place-steps-clause-least
returns-then-place-steps-clause-least c =
    first-least (total_load c.args.self.now) (link_at c.args.self.now c.args.link.0) c.steps_of_link-steps.result.now c.args.load c.first_reaching_near-place.result c.steps_of_link-steps.ensures.are_steps
    (record { within = c.if-place-steps.true; here = c.first_reaching_near-place.ensures.here c.if-place-steps.true; before = c.first_reaching_near-place.ensures.before })
