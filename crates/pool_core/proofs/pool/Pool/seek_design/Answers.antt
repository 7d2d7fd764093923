use Rattle.pool_core.proofs.Steps.{keeps-same, bettered-keeps}
use Rattle.pool_core.proofs.pool.Pool.seek_design.Goals as goal

pub returns-in_err-design : goal.returns-in_err-design
returns-in_err-design c = keeps-same c.args.self.now

pub returns-in_default : goal.returns-in_default
returns-in_default c = keeps-same c.args.self.now

pub returns : goal.returns
returns c = bettered-keeps c.args.self.now c.better-answer.new.self c.in-Some.design c.better-answer.result c.better-answer.ensures.event
