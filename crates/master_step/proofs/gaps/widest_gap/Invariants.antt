use Rattle.std.proofs.Common.{◌≡◌, ◌≤◌, slice_index}
use Rattle.plan_base.specs.Facts.{total_load}
use Rattle.master_step.specs.Trials.{apart, max_below}
use Rattle.master_step.proofs.gaps.widest_gap.Given as goal

abbrev pub invariant-loop-place : goal.invariant-loop-place
invariant-loop-place l = record {
  value : l.widest ≡ max_below (λ q. apart (slice_index l.rows.column_loads.items q) (slice_index l.rows.value_loads.items q)) l.place;
  within : l.widest ≤ total_load l.inst;
}
