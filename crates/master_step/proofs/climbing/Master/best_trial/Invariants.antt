use Rattle.std.proofs.Common.{◌≡◌, ◌+◌, ◌*◌, ◌^◌, length}
use Rattle.plan_base.specs.Places.{places}
use Rattle.master_step.specs.Choosing.{allowed_of}
use Rattle.master_step.specs.Climbing.{HasRoom, AreTried}
use Rattle.master_step.proofs.climbing.Master.best_trial.Given as goal

abbrev pub invariant-loop-trial : goal.invariant-loop-trial
invariant-loop-trial l = record {
  tried : AreTried l.self.inst.now l.self.table.now.cuts l.self.ranges.now (allowed_of l.self.source) l.self.prices.now l.old l.widest l._trial l.best;
  divisor : l.divisor ≡ l.widest * 2 ^ l._trial;
  columns : l.rows.column_loads ≡ l.initial.rows.column_loads;
  values : l.rows.value_loads ≡ l.initial.rows.value_loads;
  room : HasRoom (places l.self.inst.now + length l.self.table.now.cuts) l.rows;
}
