use Rattle.std.proofs.Common.{List, ap, ◌∙◌}
use Rattle.plan_base.specs.declared.ids.ArcId.{ArcId}
use Rattle.verifier_paths.specs.Kept.{forbidden_by, without_forbidden}
use Rattle.cert_verifier.proofs.WalkLaws.{up_arcs, up_loads}
use Rattle.cert_verifier.proofs.walk.Walk.go_up.Goals as goal

pub returns-in-Split-clause-up : goal.returns-in-Split-clause-up
returns-in-Split-clause-up c = λ p parent left splits children.
    up_arcs p parent left _ c.args.range _ _ _ _ c.args.self.now.forbidden _ c.args.self.now.ranges c.in-Split.is splits children
    (c.undo.ensures.value ∙ ap (λ (l : List ArcId). without_forbidden (forbidden_by c.args.self.now.forbidden) c.in-Split.demand l) c.as_slice.ensures.value)

pub returns-in-Loads-clause-up : goal.returns-in-Loads-clause-up
returns-in-Loads-clause-up c = λ p parent left splits children.
    up_loads p parent left _ _ _ c.args.range c.args.self.now.forbidden c.args.self.now.ranges _ c.in-Loads.is splits children c.set.ensures
