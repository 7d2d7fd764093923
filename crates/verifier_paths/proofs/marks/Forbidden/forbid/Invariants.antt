use Rattle.std.proofs.Common.{◌≡◌, take}
use Rattle.arc_restrict.specs.Restrictions.{with_forbidden}
use Rattle.verifier_paths.specs.Kept.{forbidden_by}
use Rattle.verifier_paths.proofs.marks.Forbidden.forbid.Given as goal

abbrev pub invariant-loop-arc : goal.invariant-loop-arc
invariant-loop-arc l = record {
  forbidden : forbidden_by l.self ≡ with_forbidden (forbidden_by l.initial.self) l.demand (take l.arc-index l.arcs);
  demands : l.self.demands ≡ l.initial.self.demands;
  arcs : l.self.arcs ≡ l.initial.self.arcs;
}
