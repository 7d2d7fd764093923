use Rattle.std.proofs.Common.{map, take}
use Rattle.snd_network.specs.WellFormed.{AreDifferent}
use Rattle.snd_network.proofs.well_formed.are_different_rows.Given as goal

-- the names before this place differ
abbrev pub invariant-loop-place : goal.invariant-loop-place
invariant-loop-place g l = AreDifferent (map g.T.Record.name_of (take l.place l.rows))
