use Rattle.std.proofs.Common.{rules}
use Rattle.linear_hub.proofs.Answering.{leads_on, has_called}
use Rattle.linear_hub.proofs.calls.LinearHubOffice.examine.Goals as goal

pub leave-requires-clause-leads : goal.leave-requires-clause-leads
leave-requires-clause-leads g c = search (rules, leads_on c.enter-desk.result (λ d. d.pool))

pub returns-clause-called : goal.returns-clause-called
returns-clause-called g c = search (rules, has_called c.enter-desk.result (λ d. d.pool))
