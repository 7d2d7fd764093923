use Rattle.std.proofs.Common.{rules}
use Rattle.linear_hub.proofs.Answering.{leads_on, has_called, publishing_moves}
use Rattle.linear_hub.proofs.hub.LinearHub.publish_as.Goals as goal

pub leave-requires-clause-leads : goal.leave-requires-clause-leads
leave-requires-clause-leads g c =
    let moves = publishing_moves _ _ _ _ _ _ _ _ _ _ c.requires.named c.publish-answer.ensures.event c.publish-answer.ensures.unchanged in
    search (rules, leads_on c.enter-desk.result (λ d. d.pool) g.N.Naming.opening c.publish-answer.new.self.pool, moves)

pub returns-clause-called : goal.returns-clause-called
returns-clause-called g c =
    let moves = publishing_moves _ _ _ _ _ _ _ _ _ _ c.requires.named c.publish-answer.ensures.event c.publish-answer.ensures.unchanged in
    search (rules, has_called c.enter-desk.result (λ d. d.pool) g.N.Naming.opening c.publish-answer.new.self.pool, moves)
