use Rattle.std.proofs.Common.{◌-◌}
use Rattle.search_machine.specs.Machine.{IsReachable}
use Rattle.search_machine.specs.Tasks.{LeadsTo}
use Rattle.pool_core.proofs.pool.Pool.work_all.Given as goal

abbrev pub invariant-leaves : goal.invariant-leaves
invariant-leaves l = record {
  reachable : IsReachable l.self;
  leads : LeadsTo l.initial.self l.self;
}

abbrev pub decreases-leaves : goal.decreases-leaves
decreases-leaves l = l.self.budget - l.self.examined
