use Rattle.std.proofs.Common.{Option, Some, None}
use Rattle.std.specs.Prelude.{ℤ}
use Rattle.std.specs.Option.{IfNone}
use Rattle.arc_restrict.specs.Rows.{forbids}
use Rattle.column_pool.specs.Columns.{permitted_at}
use Rattle.master_step.specs.Outcomes.{IsStalled, HasStalled}
use Rattle.master_step.proofs.advancing.gain.Goals as goal

-- what follows of nothing
none-weaker : (o : Option ℤ) (P Q : Type 0) → (P → Q) → IfNone o P → IfNone o Q
none-weaker None P Q weaker h = weaker h
none-weaker (Some x) P Q weaker h = h

pub returns-clause-none : goal.returns-clause-none
returns-clause-none c =
    none-weaker c.climb-old.result.1
    (IsStalled c.args.inst.now c.args.table.now.cuts c.args.ranges.now (permitted_at (forbids c.args.restriction.now) c.args.columns.now) c.args.prices.now c.climb-old.result.0)
    (HasStalled c.args.inst.now c.args.table.now.cuts c.args.ranges.now (permitted_at (forbids c.args.restriction.now) c.args.columns.now) c.args.prices.now)
    (λ stalled. (c.climb-old.result.0, stalled)) c.climb-old.ensures.stalled
