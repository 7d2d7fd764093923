use Rattle.std.proofs.Common.{◌≡◌, rules}
use Rattle.pool_desk.specs.Standings.{standing_of}
use Rattle.linear_hub.specs.Calls.{Tasking}
use Rattle.linear_hub.proofs.Answering.{leads_on, has_called, has_found}
use Rattle.linear_hub.proofs.calls.LinearHubOffice.standing_task.Goals as goal

pub leave-requires-clause-leads : goal.leave-requires-clause-leads
leave-requires-clause-leads g c = search (rules, leads_on c.enter-desk.result (λ d. d.pool) g.N.Naming.opening c.task-answer.new.self.pool)

pub returns-clause-called : goal.returns-clause-called
returns-clause-called g c = search (rules, has_called c.enter-desk.result (λ d. d.pool) g.N.Naming.opening c.task-answer.new.self.pool)

pub returns-clause-standing : goal.returns-clause-standing
returns-clause-standing g c = has_found c.enter-desk.result (λ d. d.pool) g.N.Naming.opening c.task-answer.new.self.pool c.args.seat.now.pass _ _ _ _ (Tasking c.task-answer.result) (λ s. c.standing-standing.result ≡ standing_of c.args.asks s)
    c.args.seat.now.resting c.enter-desk.ensures.entered c.leave.ensures.left c.standing-standing.ensures
