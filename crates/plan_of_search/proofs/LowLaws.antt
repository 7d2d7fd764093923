-- What is recorded of a parent is a lower bound at its children, and how the least limit is found with these lower bounds.
use Rattle.std.proofs.Common.{◌≡◌, ℕ, ◌+◌, ◌<◌, ◌≤◌, ◌⊎◌, inl, inr, Bool, true, false, List, length, get_or, set, length-set, Option, Some, None, slice_get, refl, sym, ap, subst, ◌∙◌, arith, ℤ, pos, ◌≤ℤ◌}
use Rattle.std.specs.Prelude.{IsSomeAnd, IfSome, replicate, option_map, int_lt, if◌then◌else◌}
use Rattle.std.proofs.lemmas.Int.{ints}
use Rattle.std.proofs.lemmas.List.{length-replicate, get_or-replicate}
use Rattle.std.proofs.lemmas.Option.{slice_get_within, slice_get_read, get_or_from_slice_get}
use Rattle.plan_base.specs.declared.parts.Parts.{Parts}
use Rattle.proof_tree.specs.RatedEvidence.{rates_in, IsBoundAt}
use Rattle.proof_tree.proofs.RatedUniqueness.{rated_bound-unique}
use Rattle.branch_tree.specs.declared.node.Division.{Division}
use Rattle.branch_tree.specs.declared.node.Fate.{Fate}
use Rattle.branch_tree.specs.declared.node.Fate.TheVariants.{Undone, ClosedBy, DividedBy}
use Rattle.search_machine.specs.State.{Best, Limit, left_limit, right_limit, Node, State, region_of, cutoff_of, kept_by, kept_prices}
use Rattle.search_machine.specs.Machine.{IsReachable}
use Rattle.search_machine.specs.Changes.{bound_in}
use Rattle.search_machine.specs.Nodes.{HasSoundFate, IsSoundBest}
use Rattle.search_machine.specs.Family.{IsChild, IsChildBy, HasChild, HasChildrenBy}
use Rattle.search_machine.specs.Soundness.{IsSound}
use Rattle.search_nodes.specs.Records.{children_by}
use Rattle.search_nodes.specs.Ranks.{lesser_of}
use Rattle.plan_of_search.specs.PlanParts.{IsLeafBound, IsLeafBoundOrNone, IsLimitBelow, IsLeastOrNone}
use Rattle.plan_of_search.specs.LeafLows.{IsLow, AreLows, lows_with, IsAtMost, IsNeedless, IsLimitOrNone, IsBegun, IsLesserOver}
use Rattle.search_machine.proofs.Frames.{one_at}
use Rattle.search_machine.proofs.Replacing.{node_at}
use Rattle.search_machine.proofs.Runs.{IsReachable-sound}
use Rattle.search_machine.proofs.Lists.{All-at, slice_get-set_cases}
use Rattle.search_machine.proofs.Rising.{child-inside, child-rises, IsBoundAt-rises}

-- Children

module _ (s : State) (h : IsReachable s) (n m : ℕ) (parent child : Node) (d : Division) (is_parent : slice_get s.nodes n ≡ Some parent) (divided : parent.fate ≡ DividedBy d)
    (is_child : slice_get s.nodes m ≡ Some child) (c : IsChildBy parent d child) (best : Best) (recorded : parent.best ≡ Some best) (bound : ℤ) (leaf : IsLeafBound s m bound) where
  abbrev p : Parts
  p = s.problem

  sound : IsSound s
  sound = IsReachable-sound s h

  at_kept : (o : Option Best) → child.best ≡ o → IsBoundAt p s.cuts (region_of p child) (kept_by o child.first_prices) bound
  at_kept o same =
      subst (λ (x : Option Best). IsBoundAt p s.cuts (region_of p child) (kept_by x child.first_prices) bound) same
      (subst (λ (x : Node). IsBoundAt p s.cuts (region_of p x) (kept_prices x) bound) (one_at s.nodes m leaf.node child leaf.is_node is_child) leaf.is_bound)

  -- what is recorded of a divided node is at most the bound of its child, as an open leaf
  child-low : best.bound ≤ℤ bound
  child-low = by_best child.best refl
    where
      prices : child.first_prices ≡ best.prices
      prices = elim c [ inl left ↦ left.first_prices | inr right ↦ right.first_prices ] ∙ ap (λ (o : Option Best). kept_by o parent.first_prices) recorded

      by_best : (o : Option Best) → child.best ≡ o → best.bound ≤ℤ bound
      by_best (Some other) same =
          let b : IsSoundBest p s.cuts (region_of p child) child.first_prices child.completed other = rw same at ((node_at s m child sound is_child).best) in
          let one : other.bound ≡ bound = rated_bound-unique p s.cuts (region_of p child) other.prices (rates_in p other.prices) other.bound bound b.is_bound (at_kept (Some other) same) in
          subst (λ (x : ℤ). best.bound ≤ℤ x) one (child-rises s n m parent child d best other sound is_parent divided is_child c recorded same)
      by_best None none =
          let a : IsSoundBest p s.cuts (region_of p parent) parent.first_prices parent.completed best = rw recorded at ((node_at s n parent sound is_parent).best) in
          let inside = child-inside p s.cuts (cutoff_of s) parent child d (All-at (HasSoundFate p s.cuts (cutoff_of s)) s.nodes n parent sound.fates is_parent) divided c in
          IsBoundAt-rises p s.cuts (region_of p child) (region_of p parent) best.prices best.bound bound inside a.is_bound
          (subst (λ (ps : List ℕ). IsBoundAt p s.cuts (region_of p child) ps bound) prices (at_kept None none))

-- Lower bounds

-- at first nothing is known of any node
pub lows-none : (s : State) → AreLows s (replicate (length s.nodes) None)
lows-none s = record {
  count = length-replicate (length s.nodes) None;
  each = λ n low is.
      let within : n < length s.nodes = subst (λ (k : ℕ). n < k) (length-replicate (length s.nodes) None) (slice_get_within (replicate (length s.nodes) None) n low is) in
      let none : None ≡ low = sym (get_or-replicate (length s.nodes) n None low within) ∙ get_or_from_slice_get (replicate (length s.nodes) None) n low low is in
      subst (IsLow s n) none tt;
}

-- the same of a list of so many entries
pub lows-begun : (s : State) (n : ℕ) (lows : List (Option ℤ)) → n ≡ length s.nodes → lows ≡ replicate n None → AreLows s lows
lows-begun s n lows size none = subst (AreLows s) (sym (none ∙ ap (λ (k : ℕ). replicate k None) size)) (lows-none s)

lows-set : (s : State) (lows : List (Option ℤ)) (m : ℕ) (low : Option ℤ) → AreLows s lows → IsLow s m low → AreLows s (set lows m low)
lows-set s lows m low h is = record {
  count = length-set lows m low ∙ h.count;
  each = λ n there at. elim (slice_get-set_cases lows m n low there at) [
    | inl here ↦ subst (λ (i : ℕ). IsLow s i there) (sym here.0) (subst (IsLow s m) (sym here.1) is)
    | inr other ↦ h.each n there other.1
  ];
}

module _ (s : State) (h : IsReachable s) (n : ℕ) (node : Node) (is : slice_get s.nodes n ≡ Some node) where
  children : (fate : Fate) → node.fate ≡ fate → HasChildrenBy s.nodes n node fate
  children fate same = subst (HasChildrenBy s.nodes n node) same ((IsReachable-sound s h).family.children n node is)

  -- the children of a node have places among the nodes
  pub children-within : (lows : List (Option ℤ)) → AreLows s lows → IfSome (children_by node.fate) (λ children. (children.0.0 < length lows) × (children.1.0 < length lows))
  children-within lows are = by_fate node.fate refl
    where
      within : (m : ℕ) (limit : Limit) → HasChild s.nodes n node m limit → m < length lows
      within m limit has = subst (λ (k : ℕ). m < k) (sym are.count) (slice_get_within s.nodes m has.1 has.2)

      by_fate : (fate : Fate) → node.fate ≡ fate → IfSome (children_by fate) (λ children. (children.0.0 < length lows) × (children.1.0 < length lows))
      by_fate Undone same = tt
      by_fate (ClosedBy found) same = tt
      by_fate (DividedBy d) same = let both = children (DividedBy d) same in (within d.left_child.0 (left_limit d.by) both.0, within d.right_child.0 (right_limit d.by) both.1)

  -- what is recorded of a node may be told to its children
  pub lows-told : (lows : List (Option ℤ)) → AreLows s lows → AreLows s (lows_with lows (bound_in (Some node)) (children_by node.fate))
  lows-told lows are = by_fate node.fate refl
    where
      low : (d : Division) (m : ℕ) (limit : Limit) → node.fate ≡ DividedBy d → ((child : Node) → IsChild node limit child → IsChildBy node d child) → HasChild s.nodes n node m limit → IsLow s m (bound_in (Some node))
      low d m limit divided side has = by_best node.best refl
        where
          by_best : (o : Option Best) → node.best ≡ o → IsLow s m (option_map (λ (best : Best). best.bound) o)
          by_best None none = tt
          by_best (Some best) recorded = λ bound leaf. child-low s h n m node has.1 d is divided has.2 (side has.1 has.3) best recorded bound leaf

      by_fate : (fate : Fate) → node.fate ≡ fate → AreLows s (lows_with lows (bound_in (Some node)) (children_by fate))
      by_fate Undone same = are
      by_fate (ClosedBy found) same = are
      by_fate (DividedBy d) same =
          let both = children (DividedBy d) same in
          lows-set s (set lows d.left_child.0 (bound_in (Some node))) d.right_child.0 (bound_in (Some node))
          (lows-set s lows d.left_child.0 (bound_in (Some node)) are (low d d.left_child.0 (left_limit d.by) same (λ child c. inl c) both.0))
          (low d d.right_child.0 (right_limit d.by) same (λ child c. inr c) both.1)

-- what is read of a node and of the lower bounds
module _ (s : State) (n : ℕ) (within : n < length s.nodes) where
  read-node : (node : Node) → node ≡ get_or s.nodes n node → slice_get s.nodes n ≡ Some node
  read-node node read = slice_get_read s.nodes (length s.nodes) n node refl within read

  -- the children of a node that is read have places among the nodes
  pub told-within : IsReachable s → (node : Node) → node ≡ get_or s.nodes n node → (lows : List (Option ℤ)) → AreLows s lows
      → IfSome (children_by node.fate) (λ children. (children.0.0 < length lows) × (children.1.0 < length lows))
  told-within h node read = children-within s h n node (read-node node read)

  -- what is recorded of a node that is read may be told to its children
  pub told-lows : IsReachable s → (node : Node) → node ≡ get_or s.nodes n node → (lows told : List (Option ℤ)) → AreLows s lows → told ≡ lows_with lows (bound_in (Some node)) (children_by node.fate) → AreLows s told
  told-lows h node read lows told are is = subst (AreLows s) (sym is) (lows-told s h n node (read-node node read) lows are)

  -- what is read of lower bounds is one of the node
  pub read-low : (lows : List (Option ℤ)) (low : Option ℤ) → AreLows s lows → low ≡ get_or lows n low → IsLow s n low
  read-low lows low are read = are.each n low (slice_get_read lows (length s.nodes) n low (sym are.count) within read)

-- The lesser of two

pub lesser-left : (one other : Option ℤ) (bound : ℤ) → IsAtMost one bound → IsAtMost (lesser_of one other) bound
lesser-left None other bound bad = absurd bad
lesser-left (Some l) None bound h = h
lesser-left (Some l) (Some o) bound h = by_cases (int_lt o l) refl
  where
    by_cases : (b : Bool) → int_lt o l ≡ b → (if b then o else l) ≤ℤ bound
    by_cases true less = let low : l ≤ℤ bound = h in grind (arith, ints)
    by_cases false more = h

pub lesser-right : (one other : Option ℤ) (bound : ℤ) → IsAtMost other bound → IsAtMost (lesser_of one other) bound
lesser-right None other bound h = h
lesser-right (Some l) None bound bad = absurd bad
lesser-right (Some l) (Some o) bound h = by_cases (int_lt o l) refl
  where
    by_cases : (b : Bool) → int_lt o l ≡ b → (if b then o else l) ≤ℤ bound
    by_cases true less = h
    by_cases false more = let low : o ≤ℤ bound = h in grind (arith, ints)

lesser-one : (P : ℤ → Type 0) (one other : Option ℤ) → IfSome one P → IfSome other P → IfSome (lesser_of one other) P
lesser-one P None other a b = b
lesser-one P (Some l) None a b = a
lesser-one P (Some l) (Some o) a b = by_cases (int_lt o l)
  where
    by_cases : (b : Bool) → P (if b then o else l)
    by_cases true = b
    by_cases false = a

-- The least limit

at_most-self : (l : ℤ) → l ≤ℤ l
at_most-self l = omega (arith, ints)

at_most-through : (a b c : ℤ) → a ≤ℤ b → b ≤ℤ c → a ≤ℤ c
at_most-through a b c x y = omega (arith, ints)

module _ (s : State) where
  -- the cost of the best design is where the least limit begins
  pub begun-cost : IsBegun s (option_map (λ cost. pos cost) (cutoff_of s))
  begun-cost = by_cost (cutoff_of s) refl
    where
      by_cost : (o : Option ℕ) → cutoff_of s ≡ o → IsBegun s (option_map (λ cost. pos cost) o)
      by_cost None is = record {
        is_limit = tt;
        below_cost = λ bound limit. elim limit [
          | inl cost ↦ absurd (subst (λ (o : Option ℕ). IsSomeAnd o (λ c. pos c ≡ bound)) is cost)
          | inr leaf ↦ let below = leaf.1 in absurd (omega arith)
        ];
      }
      by_cost (Some cost) is = record {
        is_limit = inl (subst (λ (o : Option ℕ). IsSomeAnd o (λ c. pos c ≡ pos cost)) (sym is) refl);
        below_cost = λ bound limit. elim limit [
          | inl same ↦ let e : pos cost ≡ bound = subst (λ (o : Option ℕ). IsSomeAnd o (λ c. pos c ≡ bound)) is same in omega (arith, ints)
          | inr leaf ↦ let below = leaf.1 in absurd (omega arith)
        ];
      }

  leaf-limit : (n : ℕ) (found : Option ℤ) → n < length s.nodes → IfSome found (IsLeafBound s n) → IsLimitOrNone s found
  leaf-limit n None within is = tt
  leaf-limit n (Some bound) within is = inr (n, within, is)

  -- what is recorded of an open leaf may be taken with it
  pub begun-next : (n : ℕ) (least found : Option ℤ) → n < length s.nodes → IsBegun s least → IfSome found (IsLeafBound s n) → IsBegun s (lesser_of least found)
  begun-next n least found within h is = record {
    is_limit = lesser-one (IsLimitBelow s (length s.nodes)) least found h.is_limit (leaf-limit n found within is);
    below_cost = λ bound limit. lesser-left least found bound (h.below_cost bound limit);
  }

  here-alone : (n m : ℕ) → n ≤ m → m < n + 1 → m ≡ n
  here-alone n m from to = omega arith

  -- a leaf whose lower bound is not below the least one so far cannot make it less
  pub over-skipped : (n : ℕ) (low least : Option ℤ) → IsLimitOrNone s least → IsLow s n low → IsNeedless low least → IsLesserOver s n (n + 1) least least
  over-skipped n None least limit low bad = absurd bad
  over-skipped n (Some l) None limit low bad = absurd bad
  over-skipped n (Some l) (Some least) limit low needless = record {
    is_limit = limit;
    keeps = λ bound at. at;
    leaves = λ m bound from to leaf. at_most-through least l bound needless (low bound (subst (λ (i : ℕ). IsLeafBound s i bound) (here-alone n m from to) leaf));
  }

  some-leaf : (n : ℕ) (found : Option ℤ) → IsLeafBoundOrNone s n found → IfSome found (IsLeafBound s n)
  some-leaf n None none = tt
  some-leaf n (Some bound) is = is

  leaf-at_most : (n : ℕ) (found : Option ℤ) (bound : ℤ) → IsLeafBoundOrNone s n found → IsLeafBound s n bound → IsAtMost found bound
  leaf-at_most n None bound none leaf = none bound leaf
  leaf-at_most n (Some one) bound x y =
      let p = s.problem in
      let same = one_at s.nodes n y.node x.node y.is_node x.is_node in
      let there : IsBoundAt p s.cuts (region_of p x.node) (kept_prices x.node) bound = subst (λ (node : Node). IsBoundAt p s.cuts (region_of p node) (kept_prices node) bound) same y.is_bound in
      let one_is : one ≡ bound = rated_bound-unique p s.cuts (region_of p x.node) (kept_prices x.node) (rates_in p (kept_prices x.node)) one bound x.is_bound there in
      subst (λ (b : ℤ). one ≤ℤ b) one_is (at_most-self one)

  -- the bound of a leaf is taken with the least one so far
  pub over-priced : (n : ℕ) (least found : Option ℤ) → n < length s.nodes → IsLimitOrNone s least → IsLeafBoundOrNone s n found → IsLesserOver s n (n + 1) least (lesser_of least found)
  over-priced n least found within limit is = record {
    is_limit = lesser-one (IsLimitBelow s (length s.nodes)) least found limit (leaf-limit n found within (some-leaf n found is));
    keeps = λ bound at. lesser-left least found bound at;
    leaves = λ m bound from to leaf. lesser-right least found bound (leaf-at_most n found bound is (subst (λ (i : ℕ). IsLeafBound s i bound) (here-alone n m from to) leaf));
  }

  -- no leaf is looked at yet
  pub over-none : (n : ℕ) (least : Option ℤ) → IsLimitOrNone s least → IsLesserOver s n n least least
  over-none n least limit = record { is_limit = limit; keeps = λ bound at. at; leaves = λ m bound from to leaf. absurd (omega arith) }

  -- nothing is left to look at
  pub over-past : (from to number : ℕ) (old new : Option ℤ) → to ≤ number → IsLesserOver s from number old new → IsLesserOver s from to old new
  over-past from to number old new past h = record { is_limit = h.is_limit; keeps = h.keeps; leaves = λ n bound above below leaf. h.leaves n bound above (omega arith) leaf }

  before-or-from : (m n : ℕ) → (n < m) ⊎ (m ≤ n)
  before-or-from m n = grind arith

  -- leaves up to a number, and those from there on
  pub over-more : (from mid to : ℕ) (one two three : Option ℤ) → IsLesserOver s from mid one two → IsLesserOver s mid to two three → IsLesserOver s from to one three
  over-more from mid to one two three x y = record {
    is_limit = y.is_limit;
    keeps = λ bound at. y.keeps bound (x.keeps bound at);
    leaves = λ n bound above below leaf. elim (before-or-from mid n) [ inl before ↦ y.keeps bound (x.leaves n bound above before leaf) | inr after ↦ y.leaves n bound after below leaf ];
  }

  least-found : (found : Option ℤ) → IsLimitOrNone s found → ((bound : ℤ) → IsLimitBelow s (length s.nodes) bound → IsAtMost found bound) → IsLeastOrNone s (length s.nodes) found
  least-found None limit least = λ bound is. least bound is
  least-found (Some found) limit least = record { is_limit = limit; least = λ bound is. least bound is }

  -- one leaf, those before it and those behind it are all leaves
  pub least-all : (first count : ℕ) (begun of_first before found : Option ℤ) → count ≡ length s.nodes → IsBegun s begun → IsLesserOver s first (first + 1) begun of_first
      → IsLesserOver s 0 first of_first before → IsLesserOver s (first + 1) count before found → IsLeastOrNone s (length s.nodes) found
  least-all first count begun of_first before found all h x y z =
      least-found found z.is_limit (λ bound limit. elim limit [
        | inl cost ↦ z.keeps bound (y.keeps bound (x.keeps bound (h.below_cost bound (inl cost))))
        | inr leaf ↦ let within : leaf.0 < count = subst (λ (k : ℕ). leaf.0 < k) (sym all) leaf.1 in
            elim (before-or-from first leaf.0) [
              | inl early ↦ z.keeps bound (y.leaves leaf.0 bound (omega arith) early leaf.2)
              | inr late ↦ elim (before-or-from (first + 1) leaf.0) [
                | inl here ↦ z.keeps bound (y.keeps bound (x.leaves leaf.0 bound late here leaf.2))
                | inr later ↦ z.leaves leaf.0 bound later within leaf.2
              ]
            ]
      ])
