use Rattle.std.proofs.Common.{◌≡◌, length}
use Rattle.cut_values.specs.Crossings.{AreCrossingRows}
use Rattle.cut_values.proofs.crossing.crossing_rows.Given as goal

-- the rows of the places before this one
abbrev pub invariant-loop-place : goal.invariant-loop-place
invariant-loop-place l = (length l.rows.items ≡ l.place) × AreCrossingRows l.inst l.cuts l.rows.items l.place
