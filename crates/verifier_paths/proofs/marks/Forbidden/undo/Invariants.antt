use Rattle.std.proofs.Common.{◌≡◌, take}
use Rattle.verifier_paths.specs.Kept.{forbidden_by, without_forbidden}
use Rattle.verifier_paths.proofs.marks.Forbidden.undo.Given as goal

abbrev pub invariant-loop-arc : goal.invariant-loop-arc
invariant-loop-arc l = record {
  forbidden : forbidden_by l.self ≡ without_forbidden (forbidden_by l.initial.self) l.demand (take l.arc-index l.arcs);
  demands : l.self.demands ≡ l.initial.self.demands;
  arcs : l.self.arcs ≡ l.initial.self.arcs;
}
