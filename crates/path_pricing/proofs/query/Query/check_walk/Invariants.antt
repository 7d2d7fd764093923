use Rattle.std.proofs.Common.{◌≡◌, None}
use Rattle.plan_base.specs.First.{first_fault, fault_at}
use Rattle.plan_base.specs.Walks.{IsWalk}
use Rattle.arc_restrict.specs.Rows.{forbids}
use Rattle.path_pricing.specs.Faults.{place_fault}
use Rattle.path_pricing.proofs.query.Query.check_walk.Given as goal

abbrev pub invariant-loop-place : goal.invariant-loop-place
invariant-loop-place l = record {
  no_fault : first_fault (fault_at (place_fault l.self.inst.now l.demand (forbids l.self.restriction.now l.self.demand.0) l.arcs) l.arcs) l.place ≡ None;
  walk : IsWalk l.self.inst.now l.demand.source l.arcs l.place l.here.0 l.met;
}
