use Rattle.std.proofs.Common.{◌≡◌, ◌≤◌, Bool, true, List, length, IsTrue}
use Rattle.plan_base.specs.declared.ids.NodeId.{NodeId}
use Rattle.plan_base.specs.declared.ids.ArcId.{ArcId}
use Rattle.plan_base.specs.Arcs.{is_arc}
use Rattle.second_path.specs.Searching.{IsBefore, IsTree, IsBackTo}
use Rattle.second_path.proofs.route.route_to.Given as goal

-- the way back from the target to the wanted node
abbrev pub invariant-loop-place : goal.invariant-loop-place
invariant-loop-place l =
    (l.place ≤ length l.arrivals)
    × ((takes : ArcId → Bool) (first : List Bool) (start : NodeId) → ((a : ArcId) → takes a ≡ true → IsTrue (is_arc l.inst a))
    → IsTree l.inst takes first start l.arrivals → IsBefore l.inst start l.arrivals (length l.arrivals) l.fn.target.0
    → IsBackTo l.inst takes first start l.fn.target l.arrivals l.place l.want l.picked.items)

abbrev pub decreases-loop-place : goal.decreases-loop-place
decreases-loop-place l = l.place
