-- The numbers of a tree in preorder: how they go on below a node, while numbers wait, and the records that they give.
use Rattle.std.proofs.Common.{◌≡◌, ℕ, zero, suc, ◌+◌, ◌<◌, ◌≤◌, List, [], ◌∷◌, ◌++◌, length, get_or, map, Option, Some, None, slice_get, All, refl, sym, ap, ap₂, subst, subst₂, ◌∙◌, arith, append_assoc}
use Rattle.std.proofs.lemmas.List.{append-nil, map-append}
use Rattle.std.proofs.lemmas.List.Elements.{All-nil, All-cons, All-push, All-pop}
use Rattle.std.proofs.lemmas.Option.{slice_get_within, slice_get-get_or}
use Rattle.proof_tree.specs.declared.tree.TreeNode.{TreeNode}
use Rattle.branch_tree.specs.declared.node.Fate.{Fate}
use Rattle.branch_tree.specs.declared.node.Fate.TheVariants.{Undone, ClosedBy, DividedBy}
use Rattle.search_machine.specs.State.{Node, kept_prices}
use Rattle.search_machine.specs.Family.{HasChildrenBy}
use Rattle.search_machine.specs.PlanOf.{records_by, records_in, records_at}
use Rattle.search_nodes.specs.Records.{record_by, record_of, children_by}
use Rattle.plan_of_search.specs.PlanParts.{record_in, record_at, numbers_with_children, numbers_by, numbers_from, numbers_at, preorder_of, HaveChildren}

-- the numbers of the whole subtree at a number
abbrev pub subtree_at : List Node → ℕ → List ℕ
subtree_at nodes n = numbers_at (length nodes) nodes n

-- the numbers of the subtrees of those that wait, the last one first
abbrev pub waiting_for : List Node → List ℕ → List ℕ
waiting_for nodes [] = []
waiting_for nodes (n ∷ ns) = waiting_for nodes ns ++ subtree_at nodes n

-- there is a node of this number
abbrev pub IsNumberOf : List Node → ℕ → Type 0
IsNumberOf nodes n = n < length nodes

module _ (nodes : List Node) (h : HaveChildren nodes) where
  -- one level more changes nothing where the depth reaches the end of the nodes
  deep_enough : (depth n : ℕ) → length nodes ≤ depth + n → numbers_at depth nodes n ≡ numbers_at (suc depth) nodes n
  deep_enough zero n deep = by (slice_get nodes n) refl
    where
      by : (o : Option Node) → slice_get nodes n ≡ o → [] ≡ numbers_from (numbers_at zero nodes) n o
      by None e = refl
      by (Some node) e = let within = slice_get_within nodes n node e in absurd (omega arith)
  deep_enough (suc depth) n deep = by (λ m later. deep_enough depth m (omega arith)) (slice_get nodes n) refl
    where
      below : ((m : ℕ) → n < m → numbers_at depth nodes m ≡ numbers_at (suc depth) nodes m) → (node : Node) (fate : Fate) → HasChildrenBy nodes n node fate
          → numbers_by (numbers_at depth nodes) fate ≡ numbers_by (numbers_at (suc depth) nodes) fate
      below deeper node Undone children = refl
      below deeper node (ClosedBy found) children = refl
      below deeper node (DividedBy d) children = ap₂ (λ (left right : List ℕ). left ++ right) (deeper d.left_child.0 children.0.0) (deeper d.right_child.0 children.1.0)

      by : ((m : ℕ) → n < m → numbers_at depth nodes m ≡ numbers_at (suc depth) nodes m) → (o : Option Node) → slice_get nodes n ≡ o
          → numbers_from (numbers_at depth nodes) n o ≡ numbers_from (numbers_at (suc depth) nodes) n o
      by deeper None e = refl
      by deeper (Some node) e = ap (λ (rest : List ℕ). n ∷ rest) (below deeper node node.fate (h n node e))

  -- a subtree is its node's number and the subtrees of its children
  pub subtree_at-step : (n : ℕ) (node : Node) → slice_get nodes n ≡ Some node → subtree_at nodes n ≡ n ∷ numbers_by (subtree_at nodes) node.fate
  subtree_at-step n node is = deep_enough (length nodes) n (omega arith) ∙ ap (numbers_from (numbers_at (length nodes) nodes) n) is

  waiting_for-push : (ns : List ℕ) (n : ℕ) → waiting_for nodes (ns ++ (n ∷ [])) ≡ subtree_at nodes n ++ waiting_for nodes ns
  waiting_for-push [] n = sym (append-nil (subtree_at nodes n))
  waiting_for-push (first ∷ ns) n =
      ap (λ (rest : List ℕ). rest ++ subtree_at nodes first) (waiting_for-push ns n) ∙ append_assoc (subtree_at nodes n) (waiting_for nodes ns) (subtree_at nodes first)

  children_wait : (ns : List ℕ) (left right : ℕ) → waiting_for nodes ((ns ++ (right ∷ [])) ++ (left ∷ [])) ≡ (subtree_at nodes left ++ subtree_at nodes right) ++ waiting_for nodes ns
  children_wait ns left right =
      waiting_for-push (ns ++ (right ∷ [])) left ∙ ap (λ (rest : List ℕ). subtree_at nodes left ++ rest) (waiting_for-push ns right)
      ∙ sym (append_assoc (subtree_at nodes left) (subtree_at nodes right) (waiting_for nodes ns))

  -- what is to come where a node's children wait
  waiting_for-numbers_with_children : (ns : List ℕ) (fate : Fate) → waiting_for nodes (numbers_with_children ns (children_by fate)) ≡ numbers_by (subtree_at nodes) fate ++ waiting_for nodes ns
  waiting_for-numbers_with_children ns Undone = refl
  waiting_for-numbers_with_children ns (ClosedBy found) = refl
  waiting_for-numbers_with_children ns (DividedBy d) = children_wait ns d.left_child.0 d.right_child.0

  -- the last number that waits comes next, and then its children's subtrees
  waiting_for-last : (ns : List ℕ) (n : ℕ) (node : Node) → slice_get nodes n ≡ Some node → waiting_for nodes (ns ++ (n ∷ [])) ≡ n ∷ waiting_for nodes (numbers_with_children ns (children_by node.fate))
  waiting_for-last ns n node is =
      waiting_for-push ns n
      ∙ ap (λ (numbers : List ℕ). numbers ++ waiting_for nodes ns) (subtree_at-step n node is)
      ∙ ap (λ (rest : List ℕ). n ∷ rest) (sym (waiting_for-numbers_with_children ns node.fate))

-- while numbers wait: all are numbers of nodes, and what is written and what is to come make the whole
pub record IsWriting (nodes : List Node) (written waiting : List ℕ) : Type 0 where
  pub within : All (IsNumberOf nodes) waiting
  pub whole : written ++ waiting_for nodes waiting ≡ preorder_of nodes

-- at first the root waits
pub IsWriting-first : (nodes : List Node) → 0 < length nodes → IsWriting nodes [] (0 ∷ [])
IsWriting-first nodes some = record { within = All-cons (IsNumberOf nodes) 0 [] some (All-nil (IsNumberOf nodes)); whole = refl }

within-numbers_with_children : (nodes : List Node) (ns : List ℕ) (n : ℕ) (node : Node) (fate : Fate) → HasChildrenBy nodes n node fate → All (IsNumberOf nodes) ns → All (IsNumberOf nodes) (numbers_with_children ns (children_by fate))
within-numbers_with_children nodes ns n node Undone children within = within
within-numbers_with_children nodes ns n node (ClosedBy found) children within = within
within-numbers_with_children nodes ns n node (DividedBy d) children within =
    All-push (IsNumberOf nodes) (ns ++ (d.right_child.0 ∷ [])) d.left_child.0
    (All-push (IsNumberOf nodes) ns d.right_child.0 within (slice_get_within nodes d.right_child.0 children.1.1 children.1.2))
    (slice_get_within nodes d.left_child.0 children.0.1 children.0.2)

-- the last of the numbers that wait is written, and its node's children wait
module _ (nodes : List Node) (written before ns after : List ℕ) (n : ℕ) (node : Node) (h : HaveChildren nodes) (writing : IsWriting nodes written before) (popped : before ≡ ns ++ (n ∷ []))
    (read : node ≡ get_or nodes n node) (awaited : after ≡ numbers_with_children ns (children_by node.fate)) where
  still : IsWriting nodes written (ns ++ (n ∷ []))
  still = subst (IsWriting nodes written) popped writing

  parts : All (IsNumberOf nodes) ns × (n < length nodes)
  parts = All-pop (IsNumberOf nodes) (ns ++ (n ∷ [])) ns (Some n) refl still.within

  held : slice_get nodes n ≡ Some node
  held = slice_get-get_or nodes n node parts.1 ∙ ap (λ (x : Node). Some x) (sym read)

  -- the last number that waits is the number of a node
  pub written-within : n < length nodes
  written-within = parts.1

  -- when the last number that waits is written, its children wait, and the whole is still the preorder
  pub written-next : IsWriting nodes (written ++ (n ∷ [])) after
  written-next = subst (IsWriting nodes (written ++ (n ∷ []))) (sym awaited) (record {
    within = within-numbers_with_children nodes ns n node node.fate (h n node held) parts.0;
    whole = append_assoc written (n ∷ []) _ ∙ ap (λ (rest : List ℕ). written ++ rest) (sym (waiting_for-last nodes h ns n node held)) ∙ still.whole;
  })

  -- when the last number that waits is written, fewer numbers are still to come
  pub written-falls : length (waiting_for nodes after) < length (waiting_for nodes before)
  written-falls =
      subst₂ (λ (xs ys : List ℕ). length (waiting_for nodes xs) < length (waiting_for nodes ys)) (sym awaited) (sym popped)
      (omega (arith, ap (λ (numbers : List ℕ). length numbers) (waiting_for-last nodes h ns n node held)))

-- The records

of_fate : (node : Node) (fate : Fate) → node.fate ≡ fate → record_of node ≡ record_by (kept_prices node) fate
of_fate node fate is = ap (record_by (kept_prices node)) is

-- the records of a subtree are those of its numbers
pub records_at-numbers : (nodes : List Node) (depth n : ℕ) → records_at depth nodes n ≡ map (record_at nodes) (numbers_at depth nodes n)
records_at-numbers nodes zero n = refl
records_at-numbers nodes (suc depth) n = by (λ m. records_at-numbers nodes depth m) (slice_get nodes n) refl
  where
    split : (left right : ℕ) → ((m : ℕ) → records_at depth nodes m ≡ map (record_at nodes) (numbers_at depth nodes m))
        → records_at depth nodes left ++ records_at depth nodes right ≡ map (record_at nodes) (numbers_at depth nodes left ++ numbers_at depth nodes right)
    split left right below =
        ap₂ (λ (a b : List TreeNode). a ++ b) (below left) (below right)
        ∙ sym (map-append (record_at nodes) (numbers_at depth nodes left) (numbers_at depth nodes right))

    by_fate : ((m : ℕ) → records_at depth nodes m ≡ map (record_at nodes) (numbers_at depth nodes m)) → (node : Node) (fate : Fate) → node.fate ≡ fate → record_at nodes n ≡ record_of node
        → records_by (records_at depth nodes) node fate ≡ record_at nodes n ∷ map (record_at nodes) (numbers_by (numbers_at depth nodes) fate)
    by_fate below node Undone is here = ap (λ (r : TreeNode). r ∷ []) (sym (here ∙ of_fate node Undone is))
    by_fate below node (ClosedBy found) is here = ap (λ (r : TreeNode). r ∷ []) (sym (here ∙ of_fate node (ClosedBy found) is))
    by_fate below node (DividedBy d) is here = ap₂ (λ (r : TreeNode) (rest : List TreeNode). r ∷ rest) (sym (here ∙ of_fate node (DividedBy d) is)) (split d.left_child.0 d.right_child.0 below)

    by : ((m : ℕ) → records_at depth nodes m ≡ map (record_at nodes) (numbers_at depth nodes m)) → (o : Option Node) → slice_get nodes n ≡ o
        → records_in (records_at depth nodes) o ≡ map (record_at nodes) (numbers_from (numbers_at depth nodes) n o)
    by below None e = refl
    by below (Some node) e = by_fate below node node.fate refl (ap record_in e)
