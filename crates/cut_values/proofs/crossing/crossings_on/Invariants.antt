use Rattle.std.proofs.Common.{◌≡◌}
use Rattle.cut_values.specs.Crossings.{crossings_before}
use Rattle.cut_values.proofs.crossing.crossings_on.Given as goal

-- the crossings of the cuts before this one
abbrev pub invariant-loop-number : goal.invariant-loop-number
invariant-loop-number l = l.row.items ≡ crossings_before l.inst l.cuts l.place l.number
