use Rattle.std.proofs.Common.{◌≡◌, ◌-◌, vec_len}
use Rattle.arc_restrict.specs.Rows.{forbids}
use Rattle.second_path.specs.Ways.{may_take}
use Rattle.second_path.specs.Searching.{IsSpentTo}
use Rattle.second_path.proofs.search.Search.run.Given as goal

-- the start and the arrivals before this place are spent
abbrev pub invariant-loop-place : goal.invariant-loop-place
invariant-loop-place l =
    IsSpentTo l.ways.inst.now (may_take l.ways.inst.now (forbids l.ways.restriction.now) l.ways.demand.0 l.ways.left_out) l.fn.self.blocked.items l.fn.start l.place l.self.met.items l.self.arrivals.items
    × (vec_len l.self.met ≡ l.ways.inst.now.nodes)
    × (l.self.blocked ≡ l.fn.self.blocked)

abbrev pub decreases-loop-place : goal.decreases-loop-place
decreases-loop-place l = l.ways.inst.now.nodes - l.place
