use Rattle.std.proofs.Common.{List, ap, ◌∙◌}
use Rattle.plan_base.specs.declared.ids.ArcId.{ArcId}
use Rattle.arc_restrict.specs.Restrictions.{with_forbidden}
use Rattle.verifier_paths.specs.Kept.{forbidden_by, without_forbidden}
use Rattle.cert_verifier.proofs.WalkLaws.{over_arcs, over_loads}
use Rattle.cert_verifier.proofs.walk.Walk.turn_right.Goals as goal

pub returns-in-Split-clause-over : goal.returns-in-Split-clause-over
returns-in-Split-clause-over c = λ p parent right splits children.
    let marks = c.args.self.now.forbidden in
    let id = c.in-Split.demand in
    over_arcs p parent right _ c.args.range _ _ _ _ marks _ c.args.self.now.ranges c.in-Split.is splits children
    (c.swap_sides.ensures.value
    ∙ ap (λ (l : List ArcId). with_forbidden (without_forbidden (forbidden_by marks) id l) id c.as_slice-in-Split.result.now) c.as_slice.ensures.value
    ∙ ap (λ (l : List ArcId). with_forbidden (without_forbidden (forbidden_by marks) id c.in-Split.left) id l) c.as_slice-in-Split.ensures.value)

pub returns-in-Loads-clause-over : goal.returns-in-Loads-clause-over
returns-in-Loads-clause-over c = λ p parent right splits children.
    over_loads p parent right _ _ _ c.args.range c.args.self.now.forbidden c.args.self.now.ranges _ c.in-Loads.is splits children c.set.ensures
