-- The leaves of a state's tree are its nodes that are not divided, in preorder.
use Rattle.std.proofs.Common.{◌≡◌, ℕ, zero, suc, ◌+◌, ◌<◌, ◌≤◌, inl, inr, true, false, List, [], ◌∷◌, ◌++◌, length, Option, Some, None, slice_get, All, refl, sym, ap, subst, ◌∙◌, arith, append_assoc}
use Rattle.std.specs.Prelude.{Any}
use Rattle.std.proofs.lemmas.List.{append-nil}
use Rattle.std.proofs.lemmas.List.Elements.{All-cons, All-nil, All-append}
use Rattle.std.proofs.lemmas.Option.{slice_get_within}
use Rattle.plan_base.specs.declared.parts.Parts.{Parts}
use Rattle.proof_tree.specs.Regions.{Region, whole}
use Rattle.proof_tree.specs.declared.tree.Evidence.{Evidence}
use Rattle.proof_tree.specs.declared.tree.Evidence.TheVariants as evidence
use Rattle.proof_tree.specs.declared.tree.TreeNode.{TreeNode}
use Rattle.proof_tree.specs.declared.tree.TreeNode.TheVariants.{Leaf}
use Rattle.proof_tree.specs.Trees.{LeafAt, leaves_at, leaves_of}
use Rattle.proof_tree.specs.Plans.{is_open}
use Rattle.branch_tree.specs.Records.{split_record}
use Rattle.branch_tree.specs.declared.node.Divider.TheVariants as divider
use Rattle.branch_tree.specs.declared.node.Fate.{Fate}
use Rattle.branch_tree.specs.declared.node.Fate.TheVariants.{Undone, ClosedBy, DividedBy}
use Rattle.search_machine.specs.State.{Divider, left_limit, right_limit, narrowed, Node, State, region_by, region_of, cutoff_of, kept_prices}
use Rattle.search_machine.specs.Machine.{IsReachable}
use Rattle.search_machine.specs.Nodes.{IsSoundFate, HasSoundFate}
use Rattle.search_machine.specs.Family.{HasChildrenBy}
use Rattle.search_machine.specs.Soundness.{IsSound}
use Rattle.search_machine.specs.PlanOf.{records_by, records_in, records_at, tree_of}
use Rattle.plan_of_search.specs.PlanParts.{numbers_by, numbers_from, numbers_at, preorder_of, times_in}
use Rattle.search_machine.proofs.Lists.{All-at}
use Rattle.search_machine.proofs.Frames.{same_or_other}
use Rattle.search_machine.proofs.Rising.{child-region}
use Rattle.search_machine.proofs.Runs.{IsReachable-sound}
use Rattle.plan_of_search.proofs.PlanOnce.{times_in-other, IsReachable-order}

-- the leaf of a node that is not divided
abbrev leaf_by : Region → List ℕ → Fate → List LeafAt
leaf_by g kept Undone = record { region = g; evidence = evidence.Open kept } ∷ []
leaf_by g kept (ClosedBy found) = record { region = g; evidence = found } ∷ []
leaf_by g kept (DividedBy d) = []

abbrev leaf_in : Parts → Option Node → List LeafAt
leaf_in p None = []
leaf_in p (Some node) = leaf_by (region_of p node) (kept_prices node) node.fate

-- the leaves of the nodes of these numbers
abbrev leaves_by : Parts → List Node → List ℕ → List LeafAt
leaves_by p nodes [] = []
leaves_by p nodes (n ∷ ns) = leaf_in p (slice_get nodes n) ++ leaves_by p nodes ns

leaves_by-append : (p : Parts) (nodes : List Node) (xs ys : List ℕ) → leaves_by p nodes (xs ++ ys) ≡ leaves_by p nodes xs ++ leaves_by p nodes ys
leaves_by-append p nodes [] ys = refl
leaves_by-append p nodes (n ∷ xs) ys =
    ap (λ (ls : List LeafAt). leaf_in p (slice_get nodes n) ++ ls) (leaves_by-append p nodes xs ys)
    ∙ sym (append_assoc (leaf_in p (slice_get nodes n)) (leaves_by p nodes xs) (leaves_by p nodes ys))

-- the record of a split has no leaf of its own
split-leaves : (g : Region) (gs : List Region) (by : Divider) (rest : List TreeNode)
    → leaves_at (g ∷ gs) (split_record by ∷ rest) ≡ leaves_at (narrowed g (left_limit by) ∷ narrowed g (right_limit by) ∷ gs) rest
split-leaves g gs (divider.Arcs d) rest = refl
split-leaves g gs (divider.Load d) rest = refl

module _ (s : State) (h : IsSound s) where
  abbrev p : Parts
  p = s.problem

  abbrev at_depth : ℕ → ℕ → List TreeNode
  at_depth depth n = records_at depth s.nodes n

  leaves-there : (depth n : ℕ) (node : Node) → slice_get s.nodes n ≡ Some node → length s.nodes ≤ depth + n → (gs : List Region) (rest : List TreeNode)
      → leaves_at (region_of p node ∷ gs) (at_depth depth n ++ rest) ≡ leaves_by p s.nodes (numbers_at depth s.nodes n) ++ leaves_at gs rest
  leaves-there zero n node is deep gs rest = let within = slice_get_within s.nodes n node is in absurd (omega arith)
  leaves-there (suc depth) n node is deep gs rest =
      let P : Option Node → Type 0 = λ o. leaves_at (region_of p node ∷ gs) (records_in (at_depth depth) o ++ rest) ≡ leaves_by p s.nodes (numbers_from (numbers_at depth s.nodes) n o) ++ leaves_at gs rest in
      subst P (sym is) (by_fate (λ m child above at gs' rest'. leaves-there depth m child at (omega arith) gs' rest') node.fate refl (h.family.children n node is))
    where
      g : Region
      g = region_of p node

      here : (fate : Fate) → node.fate ≡ fate → leaf_in p (slice_get s.nodes n) ≡ leaf_by g (kept_prices node) fate
      here fate same = ap (leaf_in p) is ∙ ap (leaf_by g (kept_prices node)) same

      by_fate : ((m : ℕ) (child : Node) → n < m → slice_get s.nodes m ≡ Some child → (gs' : List Region) (rest' : List TreeNode)
          → leaves_at (region_of p child ∷ gs') (at_depth depth m ++ rest') ≡ leaves_by p s.nodes (numbers_at depth s.nodes m) ++ leaves_at gs' rest')
          → (fate : Fate) → node.fate ≡ fate → HasChildrenBy s.nodes n node fate
          → leaves_at (g ∷ gs) (records_by (at_depth depth) node fate ++ rest) ≡ leaves_by p s.nodes (n ∷ numbers_by (numbers_at depth s.nodes) fate) ++ leaves_at gs rest
      by_fate child-leaves Undone same children = ap (λ (ls : List LeafAt). (ls ++ []) ++ leaves_at gs rest) (sym (here Undone same))
      by_fate child-leaves (ClosedBy found) same children = ap (λ (ls : List LeafAt). (ls ++ []) ++ leaves_at gs rest) (sym (here (ClosedBy found) same))
      by_fate child-leaves (DividedBy d) same children =
          let left = children.0 in
          let right = children.1 in
          let on_left : Region = narrowed g (left_limit d.by) in
          let on_right : Region = narrowed g (right_limit d.by) in
          let g_left : region_of p left.1 ≡ on_left = child-region p node left.1 (left_limit d.by) left.3 in
          let g_right : region_of p right.1 ≡ on_right = child-region p node right.1 (right_limit d.by) right.3 in
          let recs_left = at_depth depth d.left_child.0 in
          let recs_right = at_depth depth d.right_child.0 in
          let nums_left = numbers_at depth s.nodes d.left_child.0 in
          let nums_right = numbers_at depth s.nodes d.right_child.0 in
          let below = leaves_at gs rest in
          let of_left : leaves_at (on_left ∷ on_right ∷ gs) (recs_left ++ (recs_right ++ rest)) ≡ leaves_by p s.nodes nums_left ++ leaves_at (on_right ∷ gs) (recs_right ++ rest) =
          subst (λ (x : Region). leaves_at (x ∷ on_right ∷ gs) (recs_left ++ (recs_right ++ rest)) ≡ leaves_by p s.nodes nums_left ++ leaves_at (on_right ∷ gs) (recs_right ++ rest)) g_left
          (child-leaves d.left_child.0 left.1 left.0 left.2 (on_right ∷ gs) (recs_right ++ rest)) in
          let of_right : leaves_at (on_right ∷ gs) (recs_right ++ rest) ≡ leaves_by p s.nodes nums_right ++ below =
          subst (λ (x : Region). leaves_at (x ∷ gs) (recs_right ++ rest) ≡ leaves_by p s.nodes nums_right ++ below) g_right
          (child-leaves d.right_child.0 right.1 right.0 right.2 gs rest) in
          let both : leaves_by p s.nodes nums_left ++ (leaves_by p s.nodes nums_right ++ below) ≡ leaves_by p s.nodes (nums_left ++ nums_right) ++ below =
          sym (append_assoc (leaves_by p s.nodes nums_left) (leaves_by p s.nodes nums_right) below) ∙ ap (λ (ls : List LeafAt). ls ++ below) (sym (leaves_by-append p s.nodes nums_left nums_right)) in
          let none : leaves_by p s.nodes (nums_left ++ nums_right) ++ below ≡ (leaf_in p (slice_get s.nodes n) ++ leaves_by p s.nodes (nums_left ++ nums_right)) ++ below =
          ap (λ (ls : List LeafAt). (ls ++ leaves_by p s.nodes (nums_left ++ nums_right)) ++ below) (sym (here (DividedBy d) same)) in
          split-leaves g gs d.by ((recs_left ++ recs_right) ++ rest)
          ∙ (ap (leaves_at (on_left ∷ on_right ∷ gs)) (append_assoc recs_left recs_right rest)
          ∙ (of_left ∙ (ap (λ (ls : List LeafAt). leaves_by p s.nodes nums_left ++ ls) of_right ∙ (both ∙ none))))

  -- the leaves of a state's tree are those of its nodes in preorder
  pub leaves_of-tree : leaves_of p (tree_of s) ≡ leaves_by p s.nodes (preorder_of s.nodes)
  leaves_of-tree =
      let root = h.family.root in
      let at_root : region_of p root ≡ whole p = ap (region_by p) h.family.root_limits in
      let all = leaves-there (length s.nodes) 0 root h.family.is_root (omega arith) [] [] in
      let from_root : leaves_at (whole p ∷ []) (tree_of s ++ []) ≡ leaves_by p s.nodes (preorder_of s.nodes) ++ [] =
      subst (λ (x : Region). leaves_at (x ∷ []) (tree_of s ++ []) ≡ leaves_by p s.nodes (preorder_of s.nodes) ++ []) at_root all in
      sym (ap (leaves_at (whole p ∷ [])) (append-nil (tree_of s))) ∙ (from_root ∙ append-nil (leaves_by p s.nodes (preorder_of s.nodes)))

  -- what an open leaf of the tree is
  pub record IsLeafOf (leaf : LeafAt) : Type 0 where
    pub number : ℕ
    pub node : Node
    pub is_node : slice_get s.nodes number ≡ Some node
    pub region_is : leaf.region ≡ region_of p node
    pub opens : (prices : List ℕ) → leaf.evidence ≡ evidence.Open prices → (node.fate ≡ Undone) × (prices ≡ kept_prices node)

  leaf-of : (n : ℕ) (node : Node) → slice_get s.nodes n ≡ Some node → (fate : Fate) → node.fate ≡ fate → All IsLeafOf (leaf_by (region_of p node) (kept_prices node) fate)
  leaf-of n node is Undone same = All-cons IsLeafOf (record { region = region_of p node; evidence = evidence.Open (kept_prices node) }) []
      (record { number = n; node = node; is_node = is; region_is = refl; opens = λ prices open'. (same, cc) }) (All-nil IsLeafOf)
  leaf-of n node is (ClosedBy found) same =
      let closed : is_open (Leaf found) ≡ false =
      (subst (IsSoundFate p s.cuts (cutoff_of s) (region_of p node)) same (All-at (HasSoundFate p s.cuts (cutoff_of s)) s.nodes n node h.fates is)).0 in
      All-cons IsLeafOf (record { region = region_of p node; evidence = found }) []
      (record {
        number = n;
        node = node;
        is_node = is;
        region_is = refl;
        opens = λ prices open'.
            absurd (let yes : true ≡ false = sym (ap (λ (e : Evidence). is_open (Leaf e)) open') ∙ closed in cc);
      }) (All-nil IsLeafOf)
  leaf-of n node is (DividedBy d) same = All-nil IsLeafOf

  leaves-of : (ns : List ℕ) → All IsLeafOf (leaves_by p s.nodes ns)
  leaves-of [] = All-nil IsLeafOf
  leaves-of (n ∷ ns) = All-append IsLeafOf (leaf_in p (slice_get s.nodes n)) (leaves_by p s.nodes ns) (there (slice_get s.nodes n) refl) (leaves-of ns)
    where
      there : (o : Option Node) → slice_get s.nodes n ≡ o → All IsLeafOf (leaf_in p o)
      there None is = All-nil IsLeafOf
      there (Some node) is = leaf-of n node is node.fate refl

  -- a leaf of the tree is one of the nodes
  pub leaf-node : (P : LeafAt → Type 0) → Any P (leaves_of p (tree_of s)) → (leaf : LeafAt) × IsLeafOf leaf × P leaf
  leaf-node P any =
      let found : Any P (leaves_by p s.nodes (preorder_of s.nodes)) = subst (Any P) leaves_of-tree any in
      (found.1, subst IsLeafOf found.3 (leaves-of (preorder_of s.nodes) found.0 found.1 found.2), found.4)

any-right : {X : Type 0} (P : X → Type 0) (xs ys : List X) → Any P ys → Any P (xs ++ ys)
any-right P [] ys any = any
any-right P (x ∷ xs) ys any = let rest = any-right P xs ys any in (suc rest.0, rest.1, (let w = rest.2 in omega arith), rest.3, rest.4)

-- an undone node whose number is in the list has its leaf there
leaf-there : (P : LeafAt → Type 0) (p : Parts) (nodes : List Node) (n : ℕ) (node : Node) → slice_get nodes n ≡ Some node → node.fate ≡ Undone
    → P (record { region = region_of p node; evidence = evidence.Open (kept_prices node) }) → (ns : List ℕ) → 0 < times_in n ns → Any P (leaves_by p nodes ns)
leaf-there P p nodes n node is undone holds [] some = absurd (omega arith)
leaf-there P p nodes n node is undone holds (m ∷ ns) some = elim (same_or_other n m) [
  | inl e ↦
      let leaf : leaf_in p (slice_get nodes m) ≡ record { region = region_of p node; evidence = evidence.Open (kept_prices node) } ∷ [] =
      ap (λ (i : ℕ). leaf_in p (slice_get nodes i)) (sym e) ∙ (ap (leaf_in p) is ∙ ap (leaf_by (region_of p node) (kept_prices node)) undone) in
      let first : Any P (record { region = region_of p node; evidence = evidence.Open (kept_prices node) } ∷ leaves_by p nodes ns) =
      (0, record { region = region_of p node; evidence = evidence.Open (kept_prices node) }, omega arith, refl, holds) in
      subst (λ (ls : List LeafAt). Any P (ls ++ leaves_by p nodes ns)) (sym leaf) first
  | inr ne ↦
      let rest = times_in-other n m ns ne in
      any-right P (leaf_in p (slice_get nodes m)) (leaves_by p nodes ns) (leaf-there P p nodes n node is undone holds ns (omega arith))
]

-- an undone node has its leaf in the tree
pub node-leaf : (s : State) → IsReachable s → (P : LeafAt → Type 0) (n : ℕ) (node : Node) → slice_get s.nodes n ≡ Some node → node.fate ≡ Undone
    → P (record { region = region_of s.problem node; evidence = evidence.Open (kept_prices node) }) → Any P (leaves_of s.problem (tree_of s))
node-leaf s h P n node is undone holds =
    let order = IsReachable-order s h in
    let once = order.once n (slice_get_within s.nodes n node is) in
    subst (Any P) (sym (leaves_of-tree s (IsReachable-sound s h))) (leaf-there P s.problem s.nodes n node is undone holds (preorder_of s.nodes) (omega arith))
