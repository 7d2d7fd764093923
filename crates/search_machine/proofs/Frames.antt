-- What a change of one node leaves of the parts that speak of several nodes.
use Rattle.std.proofs.Common.{◌≡◌, ◌≢◌, ℕ, suc, ◌<◌, ◌⊎◌, inl, inr, List, [], set, Option, Some, None, slice_get, sym, ap, subst, ◌∙◌, arith}
use Rattle.std.specs.Prelude.{option_and_then}
use Rattle.plan_base.specs.declared.parts.Parts.{Parts}
use Rattle.proof_tree.specs.declared.cuts.Cut.{Cut}
use Rattle.cut_values.specs.Numbers.{AreStartNumbers}
use Rattle.search_machine.specs.State.{Limit, left_limit, right_limit, Fate, Undone, ClosedBy, DividedBy, Node}
use Rattle.search_machine.specs.Family.{badge_of, badge_at, AreApart, IsChild, HasChild, HasChildrenBy, IsFamily}
use Rattle.search_machine.proofs.Lists.{slice_get-set_same, slice_get-set_other, slice_get-set_cases}

-- two numbers are equal, or not
pub same_or_other : (i j : ℕ) → (i ≡ j) ⊎ (i ≢ j)
same_or_other i j = grind arith

-- what a list has at one place is one thing
pub one_at : {X : Type 0} (xs : List X) (i : ℕ) (x y : X) → slice_get xs i ≡ Some x → slice_get xs i ≡ Some y → x ≡ y
one_at xs i x y a b = cc

-- Slots and versions

-- rounds stay apart in nodes none of whose numbers has a slot and version that it had not before
pub AreApart-fewer : (next : ℕ) (old new : List Node) → ((n : ℕ) (b : ℕ × ℕ) → badge_at new n ≡ Some b → badge_at old n ≡ Some b) → AreApart next old → AreApart next new
AreApart-fewer next old new from h = record {
  slots = λ m n slot a b x y. h.slots m n slot a b (from m _ x) (from n _ y);
  versions = λ m n version a b x y. h.versions m n version a b (from m _ x) (from n _ y);
  below_next = λ n slot version x. h.below_next n slot version (from n _ x);
}

-- a change of one node leaves the slot and the version of each other node
pub badge_at-set_other : (nodes : List Node) (i n : ℕ) (node : Node) → n ≢ i → badge_at (set nodes i node) n ≡ badge_at nodes n
badge_at-set_other nodes i n node ne = ap (λ (o : Option Node). option_and_then (λ x. badge_of x.round) o) (slice_get-set_other nodes i n node ne)

-- where a node is replaced, its number has the slot and the version of the new node's round
pub badge_at-set_same : (nodes : List Node) (i : ℕ) (old new : Node) → slice_get nodes i ≡ Some old → badge_at (set nodes i new) i ≡ badge_of new.round
badge_at-set_same nodes i old new is = ap (λ (o : Option Node). option_and_then (λ x. badge_of x.round) o) (slice_get-set_same nodes i old new is)

-- the slot and the version at a number are those of the round of the node that is there
pub badge_at-at : (nodes : List Node) (i : ℕ) (node : Node) → slice_get nodes i ≡ Some node → badge_at nodes i ≡ badge_of node.round
badge_at-at nodes i node is = ap (λ (o : Option Node). option_and_then (λ x. badge_of x.round) o) is

-- the node keeps its badge, or has none
pub AreApart-set : (next : ℕ) (nodes : List Node) (i : ℕ) (old new : Node) → slice_get nodes i ≡ Some old
    → (badge_of new.round ≡ badge_of old.round) ⊎ (new.round ≡ None) → AreApart next nodes → AreApart next (set nodes i new)
AreApart-set next nodes i old new is keeps h = AreApart-fewer next nodes (set nodes i new) from h
  where
    from : (n : ℕ) (b : ℕ × ℕ) → badge_at (set nodes i new) n ≡ Some b → badge_at nodes n ≡ Some b
    from n b x = elim (same_or_other n i) [
      | inr ne ↦ sym (badge_at-set_other nodes i n new ne) ∙ x
      | inl e ↦
          let x' : badge_at (set nodes i new) i ≡ Some b = subst (λ (k : ℕ). badge_at (set nodes i new) k ≡ Some b) e x in
          let now : badge_of new.round ≡ Some b = sym (badge_at-set_same nodes i old new is) ∙ x' in
          subst (λ (k : ℕ). badge_at nodes k ≡ Some b) (sym e) (badge_at-at nodes i old is ∙ elim keeps [
            | inl same ↦ sym same ∙ now
            | inr none ↦ let bad : badge_of None ≡ Some b = sym (ap badge_of none) ∙ now in cc
          ])
    ]

-- a node gets a badge that no other node has, with the next version
pub AreApart-new : (next slot : ℕ) (nodes : List Node) (i : ℕ) (old new : Node) → slice_get nodes i ≡ Some old
    → badge_of new.round ≡ Some (slot, next)
    → ((n version : ℕ) → n ≢ i → badge_at nodes n ≡ Some (slot, version) → ⊥) → AreApart next nodes → AreApart (suc next) (set nodes i new)
AreApart-new next slot nodes i old new is now free h = record {
  slots = λ m n s a b x y. elim (cases m (s, a) x) [
    | inl u ↦ elim (cases n (s, b) y) [
      | inl v ↦ u.0 ∙ sym v.0
      | inr v ↦ absurd (free n b v.0 (subst (λ (k : ℕ). badge_at nodes n ≡ Some (k, b)) (ap (λ (w : ℕ × ℕ). w.0) u.1) v.1))
    ]
    | inr u ↦ elim (cases n (s, b) y) [
      | inl v ↦ absurd (free m a u.0 (subst (λ (k : ℕ). badge_at nodes m ≡ Some (k, a)) (ap (λ (w : ℕ × ℕ). w.0) v.1) u.1))
      | inr v ↦ h.slots m n s a b u.1 v.1
    ]
  ];
  versions = λ m n s a b x y. elim (cases m (a, s) x) [
    | inl u ↦ elim (cases n (b, s) y) [
      | inl v ↦ u.0 ∙ sym v.0
      | inr v ↦ let below : s < next = h.below_next n b s v.1 in let e : s ≡ next = ap (λ (w : ℕ × ℕ). w.1) u.1 in absurd (omega arith)
    ]
    | inr u ↦ elim (cases n (b, s) y) [
      | inl v ↦ let below : s < next = h.below_next m a s u.1 in let e : s ≡ next = ap (λ (w : ℕ × ℕ). w.1) v.1 in absurd (omega arith)
      | inr v ↦ h.versions m n s a b u.1 v.1
    ]
  ];
  below_next = λ n s v x. elim (cases n (s, v) x) [
    | inl u ↦ let e : v ≡ next = ap (λ (w : ℕ × ℕ). w.1) u.1 in omega arith
    | inr u ↦ let below : v < next = h.below_next n s v u.1 in omega arith
  ];
}
  where
    cases : (n : ℕ) (b : ℕ × ℕ) → badge_at (set nodes i new) n ≡ Some b → ((n ≡ i) × (b ≡ (slot, next))) ⊎ ((n ≢ i) × (badge_at nodes n ≡ Some b))
    cases n b x = elim (same_or_other n i) [
      | inr ne ↦ inr (ne, sym (badge_at-set_other nodes i n new ne) ∙ x)
      | inl e ↦
          let x' : badge_at (set nodes i new) i ≡ Some b = subst (λ (k : ℕ). badge_at (set nodes i new) k ≡ Some b) e x in
          let same : Some b ≡ Some (slot, next) = sym x' ∙ (badge_at-set_same nodes i old new is ∙ now) in
          inl (e, cc)
    ]

-- The tree

-- the node keeps its limits and its first prices
pub record SameBase (old new : Node) : Type 0 where
  pub limits : new.limits ≡ old.limits
  pub first_prices : new.first_prices ≡ old.first_prices

-- a child stays one when it keeps its limits and its first prices
pub IsChild-same : (parent : Node) (limit : Limit) (old new : Node) → SameBase old new → IsChild parent limit old → IsChild parent limit new
IsChild-same parent limit old new base h = record { limits = base.limits ∙ h.limits; first_prices = base.first_prices ∙ h.first_prices }

-- a parent keeps a child when a node is replaced that keeps its limits and its first prices
pub HasChild-set : (nodes : List Node) (i : ℕ) (old new : Node) → slice_get nodes i ≡ Some old → SameBase old new
    → (n : ℕ) (parent : Node) (number : ℕ) (limit : Limit) → HasChild nodes n parent number limit → HasChild (set nodes i new) n parent number limit
HasChild-set nodes i old new is base n parent number limit h = elim (same_or_other number i) [
  | inr ne ↦ (h.0, h.1, slice_get-set_other nodes i number new ne ∙ h.2, h.3)
  | inl e ↦
      let at : slice_get nodes i ≡ Some h.1 = subst (λ (k : ℕ). slice_get nodes k ≡ Some h.1) e h.2 in
      let same : h.1 ≡ old = one_at nodes i h.1 old at is in
      let child : IsChild parent limit old = subst (IsChild parent limit) same h.3 in
      (h.0, new, subst (λ (k : ℕ). slice_get (set nodes i new) k ≡ Some new) (sym e) (slice_get-set_same nodes i old new is), IsChild-same parent limit old new base child)
]

-- a parent keeps its children when a node is replaced that keeps its limits and its first prices
pub HasChildrenBy-set : (nodes : List Node) (i : ℕ) (old new : Node) → slice_get nodes i ≡ Some old → SameBase old new
    → (n : ℕ) (parent : Node) (fate : Fate) → HasChildrenBy nodes n parent fate → HasChildrenBy (set nodes i new) n parent fate
HasChildrenBy-set nodes i old new is base n parent Undone h = h
HasChildrenBy-set nodes i old new is base n parent (ClosedBy e) h = h
HasChildrenBy-set nodes i old new is base n parent (DividedBy d) h =
    (HasChild-set nodes i old new is base n parent d.left_child.0 (left_limit d.by) h.0, HasChild-set nodes i old new is base n parent d.right_child.0 (right_limit d.by) h.1)

-- the root after a node has been replaced that keeps its base
pub IsFamily-root : (p : Parts) (cuts : List Cut) (nodes : List Node) (i : ℕ) (old new : Node) → slice_get nodes i ≡ Some old → SameBase old new → IsFamily p cuts nodes
    → (root : Node) × (slice_get (set nodes i new) 0 ≡ Some root) × (root.limits ≡ []) × AreStartNumbers p cuts root.first_prices
IsFamily-root p cuts nodes i old new is base h = elim (same_or_other 0 i) [
  | inr ne ↦ (h.root, slice_get-set_other nodes i 0 new ne ∙ h.is_root, h.root_limits, h.root_prices)
  | inl e ↦
      let at : slice_get nodes 0 ≡ Some old = subst (λ (k : ℕ). slice_get nodes k ≡ Some old) (sym e) is in
      let same : h.root ≡ old = one_at nodes 0 h.root old h.is_root at in (
        new,
        subst (λ (k : ℕ). slice_get (set nodes i new) k ≡ Some new) (sym e) (slice_get-set_same nodes i old new is),
        base.limits ∙ (sym (ap (λ (x : Node). x.limits) same) ∙ h.root_limits),
        subst (AreStartNumbers p cuts) (sym (base.first_prices ∙ sym (ap (λ (x : Node). x.first_prices) same))) h.root_prices,
      )
]

-- a node that keeps its base and has no children
pub IsFamily-set : (p : Parts) (cuts : List Cut) (nodes : List Node) (i : ℕ) (old new : Node) → slice_get nodes i ≡ Some old → SameBase old new
    → HasChildrenBy (set nodes i new) i new new.fate → IsFamily p cuts nodes → IsFamily p cuts (set nodes i new)
IsFamily-set p cuts nodes i old new is base own h =
    let root = IsFamily-root p cuts nodes i old new is base h in
    record {
      root = root.0;
      is_root = root.1;
      root_limits = root.2;
      root_prices = root.3;
      children = λ n node at. elim (slice_get-set_cases nodes i n new node at) [
        | inl w ↦
            let P : ℕ → Node → Type 0 = λ k x. HasChildrenBy (set nodes i new) k x x.fate in
            subst (λ (k : ℕ). P k node) (sym w.0) (subst (P i) (sym w.1) own)
        | inr w ↦ HasChildrenBy-set nodes i old new is base n node node.fate (h.children n node w.1)
      ];
    }

-- an open leaf needs no children
pub no_children : (nodes : List Node) (n : ℕ) (parent : Node) (fate : Fate) → fate ≡ Undone → HasChildrenBy nodes n parent fate
no_children nodes n parent fate undone = subst (HasChildrenBy nodes n parent) (sym undone) tt
