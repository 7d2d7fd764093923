use Rattle.std.proofs.Common.{◌≡◌, ◌∙◌, ℕ, List, length, map, sym, ap, arith}
use Rattle.std.proofs.lemmas.Bool.{false≢true}
use Rattle.std.proofs.lemmas.List.{length-map}
use Rattle.proof_tree.specs.declared.tree.TreeNode.{TreeNode}
use Rattle.proof_tree.specs.Shapes.{are_trees}
use Rattle.search_machine.specs.PlanOf.{records_at}
use Rattle.plan_of_search.specs.PlanParts.{record_at, preorder_of}
use Rattle.plan_of_search.proofs.PlanNumbers.{records_at-numbers}
use Rattle.plan_of_search.proofs.PlanRecords.{order-length}
use Rattle.plan_of_search.proofs.records.tree_of.Goals as goal

pub from_nodes-requires : goal.from_nodes-requires
from_nodes-requires c =
    let nodes = c.args.nodes.items in
    let order_is : c.as_slice-2.result.now ≡ preorder_of nodes = c.as_slice-2.ensures.value ∙ c.in_ok-order.ensures ∙ ap preorder_of c.as_slice.ensures.value in
    let size : length c.in_ok-records.records.items ≡ length nodes =
    ap (λ (xs : List TreeNode). length xs) c.in_ok-records.ensures ∙ length-map c.as_slice-2.result.now (record_at nodes)
    ∙ ap (λ (xs : List ℕ). length xs) order_is ∙ order-length (length nodes) (preorder_of nodes) c.requires.order in
    let few = c.requires.few in
    omega arith

pub unreachable-requires : goal.unreachable-requires
unreachable-requires c =
    let nodes = c.args.nodes.items in
    let order_is : c.as_slice-2.result.now ≡ preorder_of nodes = c.as_slice-2.ensures.value ∙ c.in_ok-order.ensures ∙ ap preorder_of c.as_slice.ensures.value in
    let tree : c.in_ok-records.records.items ≡ records_at (length nodes) nodes 0 =
    c.in_ok-records.ensures ∙ ap (map (record_at nodes)) order_is ∙ sym (records_at-numbers nodes (length nodes) 0) in
    false≢true (c.in-Err.ensures.ok.1 (ap (are_trees 1) tree ∙ c.requires.whole))

pub returns : goal.returns
returns c =
    let nodes = c.args.nodes.items in
    let order_is : c.as_slice-2.result.now ≡ preorder_of nodes = c.as_slice-2.ensures.value ∙ c.in_ok-order.ensures ∙ ap preorder_of c.as_slice.ensures.value in
    c.in-Ok.ensures.value ∙ c.in_ok-records.ensures ∙ ap (map (record_at nodes)) order_is ∙ sym (records_at-numbers nodes (length nodes) 0)
