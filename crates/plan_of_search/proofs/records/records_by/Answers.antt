use Rattle.std.proofs.Common.{◌≡◌, ℕ, List, [], ◌∷◌, ◌++◌, get_or, set, Option, Some, None, sym, ap, ◌∙◌}
use Rattle.proof_tree.specs.declared.tree.TreeNode.{TreeNode}
use Rattle.plan_of_search.specs.PlanParts.{record_at}
use Rattle.plan_of_search.proofs.PlanRecords.{read_there, IsPicking-next}
use Rattle.plan_of_search.proofs.records.records_by.Goals as goal
use Rattle.plan_of_search.proofs.records.records_by.Goals.{in-Some+in_ok-push, in_default}

pub loop-number-preserved : goal.loop-number-preserved
loop-number-preserved c =
    let nodes = c.args.nodes.items in
    let order : List ℕ = c.args.order.now in
    let i = c.loop-number.number-index in
    let loose = c.loop-number.loose.items in
    let records = c.loop-number.records.items in
    let picked : TreeNode = record_at nodes (get_or order i 0) in
    let held : c.take.result ≡ Some picked =
    c.take.ensures.value
    ∙ read_there nodes order i loose records c.requires c.loop-number.invariant c.loop-number-test.true c.index_mut-place.result.now c.index_mut-place.ensures.value in
    elim c.match-take.branch [
      | in-Some+in_ok-push w ↦
          let both : ◌≡◌ {A = Option TreeNode} (Some w.in-Some.taken) (Some picked) = sym w.in-Some.is ∙ held in
          let same : w.in-Some.taken ≡ picked = cc in
          IsPicking-next nodes order i loose records c.requires c.loop-number.invariant c.loop-number-test.true _ _
          (ap (λ (x : Option TreeNode). set loose (get_or order i 0) x) c.take.ensures.after)
          (ap (λ v. v.items) w.records-is ∙ w.in_ok-push.ensures.items ∙ ap (λ (r : TreeNode). records ++ (r ∷ [])) same)
      | in_default w ↦ let bad : ◌≡◌ {A = Option TreeNode} None (Some picked) = sym w.in_default.is ∙ held in absurd (cc)
    ]
