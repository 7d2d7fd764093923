-- Where each node but the root is the child of one node, each number is once in the preorder.
use Rattle.std.proofs.Common.{◌≡◌, ◌≢◌, ℕ, zero, suc, ◌+◌, ◌<◌, ◌≤◌, inl, inr, Bool, ◌==◌, List, ◌∷◌, ◌++◌, length, Option, Some, None, slice_get, All, refl, sym, ap, subst, ◌∙◌, arith}
use Rattle.std.specs.Prelude.{cond}
use Rattle.std.proofs.lemmas.Bool.{eq-eqb, ne_eqb}
use Rattle.std.proofs.lemmas.List.Elements.{All-nil, All-cons, All-append}
use Rattle.std.proofs.lemmas.List.Sums.{sum_by-cons, sum_by-append}
use Rattle.std.proofs.lemmas.Option.{slice_get_within}
use Rattle.branch_tree.specs.declared.node.Division.{Division}
use Rattle.branch_tree.specs.declared.node.Fate.{Fate}
use Rattle.branch_tree.specs.declared.node.Fate.TheVariants.{Undone, ClosedBy, DividedBy}
use Rattle.search_machine.specs.State.{Node, State}
use Rattle.search_machine.specs.Machine.{IsReachable}
use Rattle.search_machine.specs.Family.{HasChildrenBy}
use Rattle.plan_of_search.specs.PlanParts.{numbers_by, numbers_from, numbers_at, preorder_of, HaveChildren, times_in, IsOrderOf}
use Rattle.search_machine.proofs.Frames.{same_or_other}
use Rattle.search_machine.proofs.Runs.{IsReachable-sound}
use Rattle.plan_of_search.proofs.PlanBorn.{division_by, division_in, division_at, IsChildNumber, IsParent, AreBorn, beyond, parent-before, IsReachable-born}

-- Counts

-- 0 plus a number is the number
pub zero_plus : (x : ℕ) → 0 + x ≡ x
zero_plus x = omega arith

-- a number at the front of a list is in it once more
pub times_in-same : (k : ℕ) (ns : List ℕ) → times_in k (k ∷ ns) ≡ 1 + times_in k ns
times_in-same k ns =
    sum_by-cons (λ m. cond (k == m) 1 0) k ns ∙ ap (λ (b : Bool). cond b 1 0 + times_in k ns) (eq-eqb k k refl)

-- another number at the front of a list does not change how often a number is in it
pub times_in-other : (k n : ℕ) (ns : List ℕ) → k ≢ n → times_in k (n ∷ ns) ≡ times_in k ns
times_in-other k n ns ne =
    sum_by-cons (λ m. cond (k == m) 1 0) n ns ∙ ap (λ (b : Bool). cond b 1 0 + times_in k ns) (ne_eqb k n ne) ∙ zero_plus (times_in k ns)

times_in-append : (k : ℕ) (ms ns : List ℕ) → times_in k (ms ++ ns) ≡ times_in k ms + times_in k ns
times_in-append k ms ns = sum_by-append (λ m. cond (k == m) 1 0) ms ns

module _ (nodes : List Node) (h : HaveChildren nodes) where
  -- below a node all numbers are greater, or there is nothing
  below-none : (depth n k : ℕ) → k < n → times_in k (numbers_at depth nodes n) ≡ 0
  below-none zero n k less = refl
  below-none (suc depth) n k less = by (λ m later. below-none depth m k (omega arith)) (slice_get nodes n) refl
    where
      by_fate : ((m : ℕ) → n < m → times_in k (numbers_at depth nodes m) ≡ 0) → (node : Node) (fate : Fate) → HasChildrenBy nodes n node fate → times_in k (numbers_by (numbers_at depth nodes) fate) ≡ 0
      by_fate none node Undone children = refl
      by_fate none node (ClosedBy found) children = refl
      by_fate none node (DividedBy d) children =
          let both = times_in-append k (numbers_at depth nodes d.left_child.0) (numbers_at depth nodes d.right_child.0) in
          let left = none d.left_child.0 children.0.0 in
          let right = none d.right_child.0 children.1.0 in
          omega arith

      by : ((m : ℕ) → n < m → times_in k (numbers_at depth nodes m) ≡ 0) → (o : Option Node) → slice_get nodes n ≡ o → times_in k (numbers_from (numbers_at depth nodes) n o) ≡ 0
      by none None e = refl
      by none (Some node) e = times_in-other k n (numbers_by (numbers_at depth nodes) node.fate) (λ same. absurd (omega arith)) ∙ by_fate none node node.fate (h n node e)

  -- a node is once in its own subtree
  self-once : (depth n : ℕ) → n < length nodes → length nodes ≤ depth + n → times_in n (numbers_at depth nodes n) ≡ 1
  self-once zero n within deep = absurd (omega arith)
  self-once (suc depth) n within deep = by (slice_get nodes n) refl
    where
      by_fate : (node : Node) (fate : Fate) → HasChildrenBy nodes n node fate → times_in n (numbers_by (numbers_at depth nodes) fate) ≡ 0
      by_fate node Undone children = refl
      by_fate node (ClosedBy found) children = refl
      by_fate node (DividedBy d) children =
          let both = times_in-append n (numbers_at depth nodes d.left_child.0) (numbers_at depth nodes d.right_child.0) in
          let left = below-none depth d.left_child.0 n children.0.0 in
          let right = below-none depth d.right_child.0 n children.1.0 in
          omega arith

      by : (o : Option Node) → slice_get nodes n ≡ o → times_in n (numbers_from (numbers_at depth nodes) n o) ≡ 1
      by None e = let far = beyond nodes n e in absurd (omega arith)
      by (Some node) e =
          let first = times_in-same n (numbers_by (numbers_at depth nodes) node.fate) in
          let rest = by_fate node node.fate (h n node e) in
          omega arith

  -- in each later subtree that does not begin with the first number, both numbers are equally often
  abbrev AgreeBelow : ℕ → ℕ → ℕ → ℕ → Type 0
  AgreeBelow depth n k m = (c : ℕ) → n < c → c ≢ k → times_in k (numbers_at depth nodes c) ≡ times_in m (numbers_at depth nodes c)

  module _ (born : AreBorn nodes) where
    -- a number is as often in a subtree as its parent's number, where it is not the subtree's own
    as_parent : (depth n m k : ℕ) → IsParent (division_at nodes) m k → n ≢ k → length nodes ≤ depth + n → times_in k (numbers_at depth nodes n) ≡ times_in m (numbers_at depth nodes n)
    as_parent zero n m k parent ne deep = refl
    as_parent (suc depth) n m k parent ne deep =
        by (λ c later other. as_parent depth c m k parent other (omega arith)) (slice_get nodes n) refl
      where
        -- the parent's own subtree
        own : AgreeBelow depth n k m → (node : Node) (d : Division) → HasChildrenBy nodes n node (DividedBy d) → d.left_child.0 ≢ d.right_child.0 → IsChildNumber d k → n ≡ m
            → times_in k (numbers_by (numbers_at depth nodes) (DividedBy d)) ≡ 1 + times_in m (numbers_by (numbers_at depth nodes) (DividedBy d))
        own below node d children apart child same =
            let left_in = slice_get_within nodes d.left_child.0 children.0.1 children.0.2 in
            let right_in = slice_get_within nodes d.right_child.0 children.1.1 children.1.2 in
            let left_later = children.0.0 in
            let right_later = children.1.0 in
            let ks = times_in-append k (numbers_at depth nodes d.left_child.0) (numbers_at depth nodes d.right_child.0) in
            let ms = times_in-append m (numbers_at depth nodes d.left_child.0) (numbers_at depth nodes d.right_child.0) in
            let no_left = below-none depth d.left_child.0 m (omega arith) in
            let no_right = below-none depth d.right_child.0 m (omega arith) in
            elim child [
              | inl e ↦
                  let here : times_in k (numbers_at depth nodes d.left_child.0) ≡ 1 =
                  subst (λ (x : ℕ). times_in x (numbers_at depth nodes d.left_child.0) ≡ 1) e (self-once depth d.left_child.0 left_in (omega arith)) in
                  let there = below d.right_child.0 right_later (λ x. apart (e ∙ sym x)) in
                  omega arith
              | inr e ↦
                  let here : times_in k (numbers_at depth nodes d.right_child.0) ≡ 1 =
                  subst (λ (x : ℕ). times_in x (numbers_at depth nodes d.right_child.0) ≡ 1) e (self-once depth d.right_child.0 right_in (omega arith)) in
                  let there = below d.left_child.0 left_later (λ x. apart (x ∙ sym e)) in
                  omega arith
            ]

        -- another node's subtree
        other : AgreeBelow depth n k m → (node : Node) (fate : Fate) → HasChildrenBy nodes n node fate → division_at nodes n ≡ division_by fate → n ≢ m
            → times_in k (numbers_by (numbers_at depth nodes) fate) ≡ times_in m (numbers_by (numbers_at depth nodes) fate)
        other below node Undone children is apart = refl
        other below node (ClosedBy found) children is apart = refl
        other below node (DividedBy d) children is apart =
            let ks = times_in-append k (numbers_at depth nodes d.left_child.0) (numbers_at depth nodes d.right_child.0) in
            let ms = times_in-append m (numbers_at depth nodes d.left_child.0) (numbers_at depth nodes d.right_child.0) in
            let left = below d.left_child.0 children.0.0 (λ x. apart (born.only k n m (d, is, inl x) parent)) in
            let right = below d.right_child.0 children.1.0 (λ x. apart (born.only k n m (d, is, inr x) parent)) in
            omega arith

        own_fate : AgreeBelow depth n k m → (node : Node) (fate : Fate) → HasChildrenBy nodes n node fate → division_at nodes n ≡ division_by fate → n ≡ m
            → times_in k (numbers_by (numbers_at depth nodes) fate) ≡ 1 + times_in m (numbers_by (numbers_at depth nodes) fate)
        own_fate below node fate children is same = by_division fate children is
          where
            at_n : division_at nodes n ≡ Some parent.0
            at_n = subst (λ (x : ℕ). division_at nodes x ≡ Some parent.0) (sym same) parent.1

            by_division : (f : Fate) → HasChildrenBy nodes n node f → division_at nodes n ≡ division_by f → times_in k (numbers_by (numbers_at depth nodes) f) ≡ 1 + times_in m (numbers_by (numbers_at depth nodes) f)
            by_division Undone c e = let bad : ◌≡◌ {A = Option Division} None (Some parent.0) = sym e ∙ at_n in cc
            by_division (ClosedBy found) c e = let bad : ◌≡◌ {A = Option Division} None (Some parent.0) = sym e ∙ at_n in cc
            by_division (DividedBy d) c e =
                let both : ◌≡◌ {A = Option Division} (Some d) (Some parent.0) = sym e ∙ at_n in
                let same_d : d ≡ parent.0 = cc in
                own below node d c (born.apart n d e) (subst (λ (x : Division). IsChildNumber x k) (sym same_d) parent.2) same

        by : AgreeBelow depth n k m → (o : Option Node) → slice_get nodes n ≡ o → times_in k (numbers_from (numbers_at depth nodes) n o) ≡ times_in m (numbers_from (numbers_at depth nodes) n o)
        by below None e = refl
        by below (Some node) e = elim (same_or_other n m) [
          | inl same ↦
              let rest = own_fate below node node.fate (h n node e) (ap division_in e) same in
              let ks = times_in-other k n (numbers_by (numbers_at depth nodes) node.fate) (λ x. ne (sym x)) in
              let ms : times_in m (n ∷ numbers_by (numbers_at depth nodes) node.fate) ≡ 1 + times_in m (numbers_by (numbers_at depth nodes) node.fate) =
              subst (λ (x : ℕ). times_in m (x ∷ numbers_by (numbers_at depth nodes) node.fate) ≡ 1 + times_in m (numbers_by (numbers_at depth nodes) node.fate)) (sym same) (times_in-same m (numbers_by (numbers_at depth nodes) node.fate)) in
              omega arith
          | inr apart ↦
              let rest = other below node node.fate (h n node e) (ap division_in e) apart in
              let ks = times_in-other k n (numbers_by (numbers_at depth nodes) node.fate) (λ x. ne (sym x)) in
              let ms = times_in-other m n (numbers_by (numbers_at depth nodes) node.fate) (λ x. apart (sym x)) in
              omega arith
        ]

    -- each number is once in the tree
    once-below : (bound k : ℕ) → k < bound → k < length nodes → times_in k (preorder_of nodes) ≡ 1
    once-below zero k less within = absurd (omega arith)
    once-below (suc bound) zero less within = self-once (length nodes) 0 within (omega arith)
    once-below (suc bound) (suc k) less within =
        let found = born.parent (suc k) (omega arith) within in
        let before = parent-before nodes h found.0 (suc k) found.1 in
        as_parent (length nodes) 0 found.0 (suc k) found.1 (λ e. absurd (omega arith)) (omega arith)
        ∙ once-below bound found.0 (let less' = before.0 in omega arith) (let less' = before.0 in omega arith)

-- all numbers of a subtree are numbers of nodes
numbers-within : (nodes : List Node) (depth n : ℕ) → All (λ m. m < length nodes) (numbers_at depth nodes n)
numbers-within nodes zero n = All-nil (λ m. m < length nodes)
numbers-within nodes (suc depth) n = by (λ m. numbers-within nodes depth m) (slice_get nodes n) refl
  where
    by_fate : ((m : ℕ) → All (λ x. x < length nodes) (numbers_at depth nodes m)) → (fate : Fate) → All (λ m. m < length nodes) (numbers_by (numbers_at depth nodes) fate)
    by_fate below Undone = All-nil (λ m. m < length nodes)
    by_fate below (ClosedBy found) = All-nil (λ m. m < length nodes)
    by_fate below (DividedBy d) = All-append (λ m. m < length nodes) (numbers_at depth nodes d.left_child.0) (numbers_at depth nodes d.right_child.0) (below d.left_child.0) (below d.right_child.0)

    by : ((m : ℕ) → All (λ x. x < length nodes) (numbers_at depth nodes m)) → (o : Option Node) → slice_get nodes n ≡ o → All (λ m. m < length nodes) (numbers_from (numbers_at depth nodes) n o)
    by below None e = All-nil (λ m. m < length nodes)
    by below (Some node) e = All-cons (λ m. m < length nodes) n (numbers_by (numbers_at depth nodes) node.fate) (slice_get_within nodes n node e) (by_fate below node.fate)

-- the preorder of the nodes that events lead to has each number once
pub IsReachable-order : (s : State) → IsReachable s → IsOrderOf (length s.nodes) (preorder_of s.nodes)
IsReachable-order s h = record {
  within = numbers-within s.nodes (length s.nodes) 0;
  once = λ n within. once-below s.nodes (IsReachable-sound s h).family.children (IsReachable-born s h) (suc n) n (omega arith) within;
}
