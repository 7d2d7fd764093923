use Rattle.std.proofs.Common.{subst}
use Rattle.search_machine.specs.Machine.{IsReachable}
use Rattle.search_machine.specs.Soundness.{IsSound}
use Rattle.search_machine.proofs.Runs.{IsReachable-sound}
use Rattle.pool_core.proofs.pool.Pool.instance.Goals as goal

pub returns-clause-reachable : goal.returns-clause-reachable
returns-clause-reachable c = subst IsReachable c.self.view_is c.self.invariant.kept.pool.reachable

pub returns-clause-sound : goal.returns-clause-sound
returns-clause-sound c = subst IsSound c.self.view_is (IsReachable-sound _ c.self.invariant.kept.pool.reachable)
