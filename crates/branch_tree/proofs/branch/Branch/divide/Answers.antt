use Rattle.std.proofs.Common.{◌≡◌, List, ◌∷◌, ◌++◌, [], length, sym, ap, subst, arith}
use Rattle.branch_tree.specs.declared.node.BranchNode.{BranchNode}
use Rattle.branch_tree.specs.Branches.{tree_node_at, left_limit, right_limit, child_of}
use Rattle.branch_tree.specs.Records.{AreNodes}
use Rattle.branch_tree.proofs.BranchLaws.{open-within, set-is_division, AreNodes-with_division}
use Rattle.branch_tree.proofs.branch.Branch.divide.Goals as goal

pub invariant_of-self-2 : goal.invariant_of-self-2
invariant_of-self-2 c =
    let old = c.args.self.now in
    let n = c.args.node.0 in
    let parent = tree_node_at old n in
    let within = open-within old n c.requires in
    let count : c.len-count.result ≡ length old = omega (arith, c.self.inside.nodes.ok.0, ap (λ (nodes : List BranchNode). length nodes) c.self.view_is) in
    let are : AreNodes old = subst AreNodes c.self.view_is c.self.invariant in
    let grown : c.append.new.self.items ≡ old ++ (child_of parent (left_limit c.args.by) ∷ child_of parent (right_limit c.args.by) ∷ []) =
    cc (c.in_ok-append.ensures.items, c.in_ok-children.ensures, c.self.view_is) in
    subst AreNodes (sym (set-is_division old c.append.new.self.items n _ c.index_mut-parent.result.now within grown c.index_mut-parent.ensures.value))
    (AreNodes-with_division old n _ are within (omega (arith, c.if-count.false)) count (omega arith))

pub returns-clause-ok : goal.returns-clause-ok
returns-clause-ok c =
    let old = c.args.self.now in
    let n = c.args.node.0 in
    let parent = tree_node_at old n in
    let within = open-within old n c.requires in
    let count : c.len-count.result ≡ length old = omega (arith, c.self.inside.nodes.ok.0, ap (λ (nodes : List BranchNode). length nodes) c.self.view_is) in
    let grown : c.append.new.self.items ≡ old ++ (child_of parent (left_limit c.args.by) ∷ child_of parent (right_limit c.args.by) ∷ []) =
    cc (c.in_ok-append.ensures.items, c.in_ok-children.ensures, c.self.view_is) in
    record {
      open_before = c.requires;
      left_id = count;
      right_id = omega arith;
      new_is = set-is_division old c.append.new.self.items n _ c.index_mut-parent.result.now within grown c.index_mut-parent.ensures.value;
    }
