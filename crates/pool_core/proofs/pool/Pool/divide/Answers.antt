use Rattle.pool_core.proofs.pool.Pool.divide.Goals as goal

pub returns-clause-event : goal.returns-clause-event
returns-clause-event c = c.put_children.ensures.event

pub returns-clause-kept : goal.returns-clause-kept
returns-clause-kept c = c.put_children.ensures.kept
