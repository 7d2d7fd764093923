use Rattle.std.proofs.Common.{◌≡◌, length, slice_index}
use Rattle.plan_base.specs.declared.limits.TheConstants.{MAX_PLACES}
use Rattle.master_step.specs.Trials.{AreLoadsBefore}
use Rattle.master_step.proofs.loads.fill_value_loads.Given as goal

abbrev pub invariant-loop-number : goal.invariant-loop-number
invariant-loop-number l = record {
  size : length l.loads ≡ MAX_PLACES;
  value : AreLoadsBefore l.inst l.table.cuts l.ranges l.prices l.number (slice_index l.loads);
}
