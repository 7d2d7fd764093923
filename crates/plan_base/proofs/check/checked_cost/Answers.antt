use Rattle.std.proofs.Common.{sym}
use Rattle.plan_base.proofs.DesignLaws.{paths_are_simple}
use Rattle.plan_base.proofs.check.checked_cost.Goals as goal

pub loads_of-loads-requires-clause-simple : goal.loads_of-loads-requires-clause-simple
loads_of-loads-requires-clause-simple c = paths_are_simple c.args.inst.now c.args.design.now (sym c.in_ok-check_paths.ensures)
