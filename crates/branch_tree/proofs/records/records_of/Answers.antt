use Rattle.std.proofs.Common.{List, [], ◌∷◌, ◌++◌, sym, ap, subst, ◌∙◌}
use Rattle.proof_tree.specs.declared.tree.TreeNode.{TreeNode}
use Rattle.branch_tree.proofs.RecordLaws.{IsWriting, written-next, written-falls}
use Rattle.branch_tree.proofs.records.records_of.Goals as goal

pub loop-id-smaller : goal.loop-id-smaller
loop-id-smaller c =
    written-falls c.args.nodes.now c.loop-id.records.items c.loop-id.waiting.items c.pop.new.self.items c.await_children.new.waiting.items c.in-Some.id c.index-nodes-id.result
    c.requires c.loop-id.invariant c.in-Some.ensures.items c.index-nodes-id.is c.in_ok-await_children.ensures

pub loop-id-preserved : goal.loop-id-preserved
loop-id-preserved c =
    subst (λ (records : List TreeNode). IsWriting c.args.nodes.now records c.await_children.new.waiting.items)
    (sym (c.in_ok-push.ensures.items ∙ ap (λ (record_is : TreeNode). c.loop-id.records.items ++ (record_is ∷ [])) c.in_ok-record_by.ensures))
    (written-next c.args.nodes.now c.loop-id.records.items c.loop-id.waiting.items c.pop.new.self.items c.await_children.new.waiting.items c.in-Some.id c.index-nodes-id.result
    c.requires c.loop-id.invariant c.in-Some.ensures.items c.index-nodes-id.is c.in_ok-await_children.ensures)
