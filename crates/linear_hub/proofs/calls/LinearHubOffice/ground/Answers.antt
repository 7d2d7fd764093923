use Rattle.std.proofs.Common.{rules}
use Rattle.std.specs.Arc.{arc_value}
use Rattle.linear_hub.proofs.Answering.{leads_on, has_called, grounding_moves}
use Rattle.linear_hub.proofs.calls.LinearHubOffice.ground.Goals as goal

pub leave-requires-clause-leads : goal.leave-requires-clause-leads
leave-requires-clause-leads g c = search (rules, leads_on c.enter-desk.result (λ d. d.pool) g.N.Naming.opening c.enter-desk.result.pool, grounding_moves arc_value c.enter-desk.result.pool c.args.node c.ground-answer.result c.ground-answer.ensures.leaf c.ground-answer.ensures.value)

pub returns-clause-called : goal.returns-clause-called
returns-clause-called g c = search (rules, has_called c.enter-desk.result (λ d. d.pool) g.N.Naming.opening c.enter-desk.result.pool, grounding_moves arc_value c.enter-desk.result.pool c.args.node c.ground-answer.result c.ground-answer.ensures.leaf c.ground-answer.ensures.value)
