use Rattle.std.proofs.Common.{◌≡◌, ◌++◌, ◌∷◌, [], List, length, map, Some, Option, sym, ap, ◌∙◌, append_assoc, append-nil, arith}
use Rattle.std.proofs.lemmas.List.{map-append, nil_from_length}
use Rattle.std.specs.Vec.Iter.{into_iter_items}
use Rattle.proof_tree.specs.declared.tree.TreeNode.{TreeNode}
use Rattle.search_machine.specs.State.{Node}
use Rattle.search_nodes.specs.Records.{record_of}
use Rattle.plan_of_search.proofs.records.loose_records.Goals as goal

-- one more record is made
made_next : (yielded : List Node) (node : Node) (old new : List (Option TreeNode)) (made : TreeNode) → new ≡ old ++ (Some made ∷ []) → made ≡ record_of node
    → old ≡ map (λ (x : Node). Some (record_of x)) yielded → new ≡ map (λ (x : Node). Some (record_of x)) (yielded ++ (node ∷ []))
made_next yielded node old new made new_is made_is old_is =
    new_is
    ∙ ap (λ (r : TreeNode). old ++ (Some r ∷ [])) made_is
    ∙ ap (λ (xs : List (Option TreeNode)). xs ++ (Some (record_of node) ∷ [])) old_is
    ∙ sym (map-append (λ (x : Node). Some (record_of x)) yielded (node ∷ []))

pub loop-node-preserved : goal.loop-node-preserved
loop-node-preserved c =
    let at = c.loop-node in
    let node = c.in-Some.node in
    let steps : into_iter_items at.node-iterator ≡ node ∷ into_iter_items c.next.new.self = c.in-Some.ensures.steps.0 in
    record {
      seen = append_assoc at.yielded (node ∷ []) _ ∙ rw (← steps) at.invariant.seen;
      made = made_next at.yielded node at.records.items _ _ c.in_ok-push.ensures.items c.into_record.ensures at.invariant.made;
      rest = let was = at.invariant.rest in let gone = c.in-Some.ensures.steps.1 in let short = ap length steps in omega arith;
    }

pub returns : goal.returns
returns c =
    let at = c.loop-node in
    let none = c.in-None.ensures.steps in
    let empty : into_iter_items at.node-iterator ≡ [] = nil_from_length _ (sym at.invariant.rest ∙ none.0) in
    let all = sym (append-nil at.yielded) ∙ rw empty at at.invariant.seen ∙ c.into_iter-node-iterator.ensures.into_iter_gives.0 in
    at.invariant.made ∙ ap (map (λ (x : Node). Some (record_of x))) all
