use Rattle.std.proofs.Common.{◌≡◌, take}
use Rattle.cut_values.specs.Crossings.{used}
use Rattle.cut_values.proofs.rated_rows.put_used.Given as goal

-- those of the cuts before this one whose rate is above 0
abbrev pub invariant-loop-crossing : goal.invariant-loop-crossing
invariant-loop-crossing l = l.list ≡ used l.rates (take l.crossing-index l.row)
