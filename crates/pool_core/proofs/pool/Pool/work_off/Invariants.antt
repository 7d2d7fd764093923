use Rattle.std.proofs.Common.{◌≡◌, suc, ◌+◌, true, cond}
use Rattle.std.specs.Prelude.{IsTrue, IsFalse}
use Rattle.search_machine.specs.Machine.{IsReachable}
use Rattle.search_machine.specs.Tasks.{LeadsTo}
use Rattle.search_view.specs.Work.{is_next}
use Rattle.pool_core.specs.Work.{steps_left}
use Rattle.pool_core.proofs.pool.Pool.work_off.Given as goal

abbrev pub invariant-steps : goal.invariant-steps
invariant-steps l = record {
  reachable : IsReachable l.self;
  leads : LeadsTo l.initial.self l.self;
  ended : IsTrue l.ended → l.self.examined ≡ l.initial.self.examined + 1;
  goes_on : IsFalse l.ended → (l.self.examined ≡ l.initial.self.examined) × (is_next l.self l.node ≡ true);
}

abbrev pub decreases-steps : goal.decreases-steps
decreases-steps l = cond l.ended 0 (suc (steps_left l.self l.node))
