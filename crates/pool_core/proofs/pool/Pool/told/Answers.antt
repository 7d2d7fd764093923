use Rattle.pool_core.proofs.Advancing.{gathered-keeps, told-taken, told-briefed}
use Rattle.pool_core.proofs.pool.Pool.told.Goals as goal

pub returns-in_err-brief-clause-keeps : goal.returns-in_err-brief-clause-keeps
returns-in_err-brief-clause-keeps c = gathered-keeps c.args.self.now c.gather.new.self c.args.node c.args.version c.gather.result c.gather.ensures.event

pub unreachable-requires : goal.unreachable-requires
unreachable-requires c =
    told-taken c.args.self.now c.gather.new.self c.args.node c.args.version c.requires.reachable c.requires.complete _ c.in_ok-brief.ensures.event (λ brief is. c.in_default.not-Taken brief is)

pub returns-clause-keeps : goal.returns-clause-keeps
returns-clause-keeps c = gathered-keeps c.args.self.now c.gather.new.self c.args.node c.args.version c.gather.result c.gather.ensures.event

pub returns-clause-briefed : goal.returns-clause-briefed
returns-clause-briefed c = told-briefed c.args.self.now c.gather.new.self c.args.node c.args.version c.requires.reachable c.requires.complete _ c.in-Taken.brief c.in-Taken.is c.in_ok-brief.ensures.event
