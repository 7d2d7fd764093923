use Rattle.std.proofs.Common.{◌<◌, length, sym, subst, ap, ◌∙◌, List}
use Rattle.branch_tree.specs.declared.node.Fate.TheVariants.{ClosedBy}
use Rattle.branch_tree.specs.declared.node.BranchNode.{BranchNode}
use Rattle.branch_tree.specs.Branches.{is_open_at}
use Rattle.branch_tree.specs.Records.{AreNodes}
use Rattle.branch_tree.proofs.BranchLaws.{open-within, set-with_fate, AreNodes-with_fate}
use Rattle.branch_tree.proofs.branch.Branch.close.Goals as goal

pub invariant_of-self : goal.invariant_of-self
invariant_of-self c =
    let nodes = c.self.inside.nodes.items in
    let n = c.args.node.0 in
    let within : n < length nodes = open-within nodes n (ap (λ (xs : List BranchNode). is_open_at xs n) c.self.view_is ∙ c.requires.open) in
    subst AreNodes (sym (set-with_fate nodes n c.index_mut-node.result.now (ClosedBy c.args.evidence) within c.index_mut-node.ensures.value))
    (AreNodes-with_fate nodes n (ClosedBy c.args.evidence) c.self.invariant within (λ count. tt) (λ limits_of limits. tt))
