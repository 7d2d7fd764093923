use Rattle.std.proofs.Common.{◌∙◌, rules}
use Rattle.std.proofs.lemmas.Int.{to_z-of_z}
use mir.Syntax.{w128}
use mir.Val.{SFits}
use Rattle.link_steps.proofs.FirstBest.{same-parts, value-same}
use Rattle.link_steps.proofs.value.candidate.Goals as goal

pub returns : goal.returns
returns c =
    let load_is = c.load_up_to-load.ensures.value in
    let back_is = c.load_up_to-back.ensures.value in
    let fits : SFits w128 c.left.result = search rules in
    same-parts _ _ _ _ _ _
    (to_z-of_z w128 c.left.result fits ∙ c.left.ensures
    ∙ value-same c.args.price c.args.back_price c.args.step.cost c.args.link.now.routing _ _ c.from-3.result c.from.result c.from-2.result c.from-4.result c.from-5.result
    c.from-3.ensures (c.from.ensures ∙ load_is) (c.from-2.ensures ∙ back_is) (c.from-4.ensures ∙ load_is) (c.from-5.ensures ∙ back_is))
    load_is back_is
