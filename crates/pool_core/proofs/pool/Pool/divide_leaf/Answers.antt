use Rattle.pool_core.proofs.Steps.{examined-one, examined-leads, never-refused}
use Rattle.pool_core.proofs.pool.Pool.divide_leaf.Goals as goal

pub returns-in-Ok-Divided-clause-leads : goal.returns-in-Ok-Divided-clause-leads
returns-in-Ok-Divided-clause-leads c = examined-leads c.args.self.now c.examine.new.self c.args.node c.examine.result c.examine.ensures.event

pub returns-in-Ok : goal.returns-in-Ok
returns-in-Ok c = record {
  leads = examined-leads c.args.self.now c.examine.new.self c.args.node c.examine.result c.examine.ensures.event;
  one = examined-one c.args.self.now c.examine.new.self c.args.node c.in-Ok.field-0 c.in-Ok.ensures.event;
}

pub unreachable-requires : goal.unreachable-requires
unreachable-requires c = c.in_default.not-OutOfMemory (never-refused c.args.self.now c.examine.new.self c.args.node c.in-Err.fault c.requires.lawful c.in-Err.ensures.event)
