use Rattle.std.proofs.Common.{◌++◌, ◌∷◌, [], take, List, ap, sym, ◌∙◌, arith}
use Rattle.std.proofs.lemmas.List.{take_more, take_all}
use Rattle.plan_base.specs.declared.ids.ArcId.{ArcId}
use Rattle.demand_routing.proofs.copies.roomy_copies.Goals as goal

pub loop-path-preserved : goal.loop-path-preserved
loop-path-preserved c =
    let paths = c.args.paths.now in
    let i = c.loop-path.path-index in
    c.in_ok-push.ensures.items
    ∙ ap (λ (copies : List (List ArcId)). copies ++ c.in_ok-roomy_copy.field-0 ∷ []) c.loop-path.invariant
    ∙ ap (λ (path : List ArcId). take i paths ++ path ∷ []) (c.in_ok-roomy_copy.ensures ∙ c.path-item.is)
    ∙ sym (take_more paths i c.path-item.result (omega arith))

pub returns : goal.returns
returns c = c.loop-path.invariant ∙ take_all c.loop-path.path-index c.args.paths.now (omega arith)
