use Rattle.std.proofs.Common.{◌<◌, ℕ}
use Rattle.plan_base.specs.Arcs.{demand_at}
use Rattle.arc_restrict.specs.Rows.{forbids}
use Rattle.second_path.specs.Searching.{IsBlockedTo, HasNoOtherAt, HasRoom}
use Rattle.second_path.proofs.others.other_path.Given as goal

-- the nodes before this place are blocked, and no other path parts at an earlier one
abbrev pub invariant-loop-place : goal.invariant-loop-place
invariant-loop-place l =
    HasRoom l.inst.nodes l.search
    × IsBlockedTo l.inst (demand_at l.inst l.k.0).source l.path l.place l.search.blocked.items
    × ((i : ℕ) → i < l.place → HasNoOtherAt l.inst (forbids l.r) l.k.0 l.path i)
