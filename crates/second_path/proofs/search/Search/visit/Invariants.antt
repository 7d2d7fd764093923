use Rattle.std.proofs.Common.{◌≡◌, vec_len}
use Rattle.arc_restrict.specs.Rows.{forbids}
use Rattle.second_path.specs.Ways.{may_take}
use Rattle.second_path.specs.Searching.{IsVisitSoFar}
use Rattle.second_path.proofs.search.Search.visit.Given as goal

-- the search went along the arcs before this one
abbrev pub invariant-loop-arc : goal.invariant-loop-arc
invariant-loop-arc l =
    IsVisitSoFar l.ways.inst.now (may_take l.ways.inst.now (forbids l.ways.restriction.now) l.ways.demand.0 l.ways.left_out) l.fn.node.0 l.arc-items l.arc-index l.initial.self.met.items l.self.met.items l.initial.self.arrivals.items l.self.arrivals.items
    × (vec_len l.self.met ≡ l.ways.inst.now.nodes)
    × (l.self.blocked ≡ l.initial.self.blocked)
