use Rattle.ticket_turns.proofs.Calling.{is_caller}
use Rattle.linear_hub.proofs.Ending.{both_met}
use Rattle.linear_hub.proofs.hub.LinearHub.meet.Goals as goal

pub returns-clause-met : goal.returns-clause-met
returns-clause-met g c = both_met (λ d. d.pool) g.N.Naming.opening _ _ _ (is_caller _ _ c.args.to.now.pass c.args.to.now.resting) c.meet.ensures.met
