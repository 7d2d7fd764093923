use Rattle.link_steps.specs.Ranges.{AreRangesBefore}
use Rattle.link_steps.proofs.range.are_ranges.Given as goal

-- the ranges of the places before this one have loads
abbrev pub invariant-loop-place : goal.invariant-loop-place
invariant-loop-place l = AreRangesBefore l.inst l.rows l.place
