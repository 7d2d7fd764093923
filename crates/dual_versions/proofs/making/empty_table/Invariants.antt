use Rattle.std.specs.Prelude.{◌≡◌, replicate}
use Rattle.dual_versions.specs.Rows.{blank}
use Rattle.dual_versions.proofs.making.empty_table.Given as goal

abbrev pub invariant-loop : goal.invariant-loop
invariant-loop l = l.rows.items ≡ replicate l.counter (blank l.node l.prices)
