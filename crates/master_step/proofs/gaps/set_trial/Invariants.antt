use Rattle.std.proofs.Common.{ℕ, ◌≡◌, ◌+◌, ◌<◌, ◌≤◌, slice_index, length}
use Rattle.plan_base.specs.Places.{places}
use Rattle.cut_values.specs.Numbers.{least_price_at, most_price_at}
use Rattle.master_step.specs.Trials.{moved}
use Rattle.master_step.proofs.gaps.set_trial.Given as goal

-- the prices before a place are moved, and all other numbers are as they were
abbrev pub invariant-loop-place : goal.invariant-loop-place
invariant-loop-place l = record {
  columns : l.rows.column_loads ≡ l.initial.rows.column_loads;
  values : l.rows.value_loads ≡ l.initial.rows.value_loads;
  count : length l.rows.trial ≡ places l.inst + length l.table.cuts;
  each : (q : ℕ) → q < l.place → slice_index l.rows.trial q
      ≡ moved (least_price_at l.inst l.table.cuts l.prices q) (most_price_at l.inst l.table.cuts l.prices q) l.greatest l.divisor (slice_index l.initial.rows.column_loads.items q) (slice_index l.initial.rows.value_loads.items q) (slice_index l.prices q);
  rest : (i : ℕ) → l.place ≤ i → slice_index l.rows.trial i ≡ slice_index l.prices i;
}
