use Rattle.std.proofs.Common.{◌≡◌}
use Rattle.link_steps.specs.Ranges.{whole_before}
use Rattle.link_steps.proofs.range.Ranges.whole.Given as goal

abbrev pub invariant-loop-place : goal.invariant-loop-place
invariant-loop-place l = l.rows.items ≡ whole_before l.inst l.place
