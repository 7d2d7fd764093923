use Rattle.std.proofs.Common.{◌≡◌, take}
use Rattle.arc_restrict.specs.Rows.{forbids}
use Rattle.arc_restrict.specs.Restrictions.{with_forbidden}
use Rattle.arc_restrict.proofs.restriction.Restriction.forbid.Given as goal

abbrev pub invariant-loop-arc : goal.invariant-loop-arc
invariant-loop-arc l = record {
  forbidden : forbids l.self ≡ with_forbidden (forbids l.initial.self) l.demand (take l.arc-index l.arcs);
  demands : l.self.demands ≡ l.initial.self.demands;
  arcs : l.self.arcs ≡ l.initial.self.arcs;
}
