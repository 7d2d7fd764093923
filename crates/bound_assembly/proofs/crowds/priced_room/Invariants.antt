use Rattle.std.proofs.Common.{◌≡◌, ◌-◌, ◌^◌, min}
use Rattle.bound_assembly.specs.RoundBounds.{priced_room}
use Rattle.bound_assembly.proofs.crowds.priced_room.Given as goal

abbrev pub invariant-loop-place : goal.invariant-loop-place
invariant-loop-place l = l.total ≡ min (priced_room l.inst l.ranges l.prices l.place) (2 ^ 128 - 1)
