use Rattle.std.proofs.Common.{rules, sym}
use Rattle.linear_hub.proofs.Answering.{leads_on, has_called}
use Rattle.linear_hub.proofs.hub.LinearHub.offer_as.Goals as goal

pub leave-requires-clause-leads : goal.leave-requires-clause-leads
leave-requires-clause-leads g c = search (rules, leads_on c.enter-desk.result (λ d. d.pool) g.N.Naming.opening c.offer-answer.new.self.pool, rw (sym c.requires.named) at c.offer-answer.ensures.event)

pub returns-clause-called : goal.returns-clause-called
returns-clause-called g c = search (rules, has_called c.enter-desk.result (λ d. d.pool) g.N.Naming.opening c.offer-answer.new.self.pool, rw (sym c.requires.named) at c.offer-answer.ensures.event)
