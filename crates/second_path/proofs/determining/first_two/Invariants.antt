use Rattle.std.proofs.Common.{◌<◌, length, IfSome}
use Rattle.arc_restrict.specs.Rows.{forbids}
use Rattle.second_path.specs.declared.determining.Held.{Held}
use Rattle.second_path.specs.Searching.{HasRoom, IsHeldTo}
use Rattle.second_path.proofs.determining.first_two.Given as goal

-- of the demands before this one, the first with two paths is held
abbrev pub invariant-loop-place : goal.invariant-loop-place
invariant-loop-place l =
    HasRoom l.inst.nodes l.search
    × IsHeldTo l.inst (forbids l.r) l.fn.paths l.place l.held
    × IfSome l.held (λ (h : Held). h.demand.0 < length l.inst.demands)
