use Rattle.std.proofs.Common.{rules}
use Rattle.pool_desk.specs.Shown.{HasFirst}
use Rattle.linear_hub.specs.Calls.{Opening}
use Rattle.linear_hub.proofs.Answering.{leads_on, has_called, has_found, opening_moves, opened_seen}
use Rattle.linear_hub.proofs.calls.LinearHubOffice.open.Goals as goal

pub leave-requires-clause-leads : goal.leave-requires-clause-leads
leave-requires-clause-leads g c = search (rules, leads_on c.enter-desk.result (λ d. d.pool) g.N.Naming.opening c.open-answer.new.self.pool, opening_moves _ _ _ _ _ _ c.open-answer.ensures.event c.open-answer.ensures.unchanged)

pub returns-clause-called : goal.returns-clause-called
returns-clause-called g c = search (rules, has_called c.enter-desk.result (λ d. d.pool) g.N.Naming.opening c.open-answer.new.self.pool, opening_moves _ _ _ _ _ _ c.open-answer.ensures.event c.open-answer.ensures.unchanged)

pub returns-clause-seen : goal.returns-clause-seen
returns-clause-seen g c = opened_seen _ (λ opened x. has_found c.enter-desk.result (λ d. d.pool) g.N.Naming.opening c.open-answer.new.self.pool c.args.seat.now.pass _ _ _ _ (Opening c.args.node c.open-answer.result) (λ s. HasFirst s c.args.node c.open-answer.new.reader opened)
    c.args.seat.now.resting c.enter-desk.ensures.entered c.leave.ensures.left x) c.open-answer.ensures.seen
