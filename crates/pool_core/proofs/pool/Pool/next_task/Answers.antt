use Rattle.std.proofs.Common.{subst, sym, ◌∙◌}
use Rattle.search_machine.specs.Machine.{IsReachable}
use Rattle.pool_core.proofs.pool.Pool.next_task.Goals as goal

pub open_task-task-requires-clause-reachable : goal.open_task-task-requires-clause-reachable
open_task-task-requires-clause-reachable c = subst IsReachable (c.self.view_is ∙ sym c.view.ensures) c.self.invariant.kept.pool.reachable
