use Rattle.pool_core.proofs.Steps.{opened-on, opened-leads, closed-leads}
use Rattle.std.proofs.Common.{◌≡◌, None, subst}
use Rattle.search_machine.specs.State.{State}
use Rattle.search_machine.specs.Opening.{open_fault}
use Rattle.pool_core.proofs.pool.Pool.take_step.Goals as goal

pub returns-in-Close-clause-leads : goal.returns-in-Close-clause-leads
returns-in-Close-clause-leads c = closed-leads c.args.self.now c.close_by_bound-answer.new.self c.args.node c.close_by_bound-answer.result c.close_by_bound-answer.ensures.event

pub returns-in-Open-clause-leads : goal.returns-in-Open-clause-leads
returns-in-Open-clause-leads c = opened-leads c.args.self.now c.open_round-answer.new.self c.args.node c.open_round-answer.result c.open_round-answer.ensures.event

pub returns-in-Open-clause-closer : goal.returns-in-Open-clause-closer
returns-in-Open-clause-closer c =
    λ still. opened-on c.args.self.now c.open_round-answer.new.self c.args.node c.open_round-answer.result c.requires.reachable (subst (λ (s : State). open_fault s c.args.node ≡ None) c.view.ensures c.in-Open.ensures.1) c.open_round-answer.ensures.event
