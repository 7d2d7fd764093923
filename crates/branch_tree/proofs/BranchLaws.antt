-- A search tree after a change of one node, and after a split.
use Rattle.std.proofs.Common.{◌≡◌, ℕ, zero, suc, ◌+◌, ◌-◌, ◌*◌, ◌/◌, ◌^◌, ◌<◌, ◌≤◌, ◌⊎◌, inl, inr, true, List, [], ◌∷◌, ◌++◌, length, get_or, set, IsTrue, refl, sym, ap, subst, subst₂, ◌∙◌, arith}
use Rattle.std.proofs.lemmas.Bool.{cases_eq, cases_lt, ltb-true, and_parts, false≢true}
use Rattle.std.proofs.lemmas.List.{get_or_append_left, get_or-append_right, get_or-set_same, get_or-set_other, get_or_default, set-append_left, length-set, length-append}
use Rattle.std.proofs.lemmas.List.Elements.{All-nil, All-cons, All-append, All-set, All-weaker}
use Rattle.std.proofs.lemmas.Option.{slice_get_past}
use Rattle.plan_base.specs.declared.ids.NodeId.{NodeId}
use Rattle.plan_base.specs.declared.ids.ArcId.{ArcId}
use Rattle.plan_base.specs.declared.ids.DemandId.{DemandId}
use Rattle.plan_base.specs.declared.parts.Parts.{Parts}
use Rattle.plan_base.specs.Arcs.{is_arc}
use Rattle.link_steps.specs.declared.range.LoadRange.{LoadRange}
use Rattle.link_steps.specs.Ranges.{AreRanges}
use Rattle.link_steps.proofs.WholeRanges.{AreRanges-whole}
use Rattle.arc_restrict.specs.Restrictions.{Forbidden}
use Rattle.proof_tree.specs.Splits.{IsSide}
use Rattle.branch_tree.specs.declared.node.Limit.{Limit}
use Rattle.branch_tree.specs.declared.node.Limit.TheVariants as limit
use Rattle.branch_tree.specs.declared.node.Division.{Division}
use Rattle.branch_tree.specs.declared.node.Fate.{Fate}
use Rattle.branch_tree.specs.declared.node.Fate.TheVariants.{Undone, ClosedBy, DividedBy}
use Rattle.branch_tree.specs.declared.node.BranchNode.{BranchNode}
use Rattle.branch_tree.specs.Branches.{tree_node_at, no_tree_node, limits_at, ranges_with, left_limit, right_limit, ranges_at, region_at, is_open_in, is_open_at, with_fate, child_of, with_division, arcs_split, IsLimitOf, IsDivider, IsNodeOf, IsTreeOf, IsBranching}
use Rattle.branch_tree.specs.Records.{HasLaterChildren, AreInherited, AreNodes}
use Rattle.branch_tree.proofs.LimitLaws.{HasSides}

-- an arc that exists has a number below twice the count of links
pub arc_within : (p : Parts) (a : ArcId) → IsTrue (is_arc p a) → a.0 < 2 * length p.links
arc_within p a exists = let below : a.0 / 2 < length p.links = ltb-true _ _ (and_parts _ _ exists).0 in omega arith

side-limit : (p : Parts) (r : Forbidden) (id : DemandId) (at : NodeId) (arcs : List ArcId) → id.0 < length p.demands → IsSide p r id at arcs → IsLimitOf p (limit.Arcs id arcs)
side-limit p r id at arcs demand side = (demand, All-weaker (λ a. IsTrue (is_arc p a)) (λ a. a.0 < 2 * length p.links) (arc_within p) arcs side.are_arcs)

-- a split by the divergence rule has its sides
pub arc-sides : (p : Parts) (r : Forbidden) (ranges : List LoadRange) (id : DemandId) (at : NodeId) (left right : List ArcId) → AreRanges p ranges → IsBranching p r id at left right → HasSides p ranges (arcs_split id at left right)
arc-sides p r ranges id at left right are branching = record {
  left = side-limit p r id at left branching.is_split.demand branching.is_split.left_side;
  right = side-limit p r id at right branching.is_split.demand branching.is_split.right_side;
  left_ranges = are;
  right_ranges = are;
}

-- an open node is one of the nodes
pub open-within : (nodes : List BranchNode) (n : ℕ) → is_open_at nodes n ≡ true → n < length nodes
open-within nodes n is_open = elim (cases_lt n (length nodes)) [
  | inl within ↦ within
  | inr past ↦ absurd (false≢true (sym (ap is_open_in (slice_get_past nodes n past)) ∙ is_open))
]

-- a tree of one node without limits is one for each instance
pub tree_of-root : (p : Parts) (prices : List ℕ) → IsTreeOf p (record { limits = []; prices = prices; fate = Undone } ∷ [])
tree_of-root p prices = All-cons (IsNodeOf p) (record { limits = []; prices = prices; fate = Undone }) [] (record { limits = All-nil (IsLimitOf p); ranges = AreRanges-whole p; fate = tt }) (All-nil (IsNodeOf p))

-- after a split the tree is one for the instance
pub tree_of-with_division : (p : Parts) (old : List BranchNode) (n : ℕ) (d : Division) → n < length old → IsTreeOf p old → IsDivider p (region_at p old n) d.by → HasSides p (ranges_at p old n) d.by → IsTreeOf p (with_division old n d)
tree_of-with_division p old n d within are is sides =
    All-append (IsNodeOf p) (with_fate old n (DividedBy d)) (child (left_limit d.by) ∷ child (right_limit d.by) ∷ [])
    (All-set (IsNodeOf p) old n (record parent { fate = DividedBy d }) (record { limits = known.limits; ranges = known.ranges; fate = is }) are)
    (All-cons (IsNodeOf p) (child (left_limit d.by)) (child (right_limit d.by) ∷ []) (is_child (left_limit d.by) sides.left sides.left_ranges)
    (All-cons (IsNodeOf p) (child (right_limit d.by)) [] (is_child (right_limit d.by) sides.right sides.right_ranges) (All-nil (IsNodeOf p))))
  where
    parent : BranchNode
    parent = tree_node_at old n

    child : Limit → BranchNode
    child last = child_of parent last

    known : IsNodeOf p parent
    known = are n no_tree_node within

    is_child : (last : Limit) → IsLimitOf p last → AreRanges p (ranges_with (ranges_at p old n) last) → IsNodeOf p (child last)
    is_child last is_limit ranges = record {
      limits = All-cons (IsLimitOf p) last parent.limits is_limit known.limits;
      ranges = ranges;
      fate = tt;
    }

-- children have the limits of their parent where nothing of theirs changed
inherited-same : (count n : ℕ) (before after : ℕ → List Limit) (limits : List Limit) (fate : Fate) → ((m : ℕ) → m < count → after m ≡ before m) → HasLaterChildren count n fate → AreInherited before limits fate → AreInherited after limits fate
inherited-same count n before after limits Undone same later inherited = inherited
inherited-same count n before after limits (ClosedBy found) same later inherited = inherited
inherited-same count n before after limits (DividedBy d) same later inherited = (same d.left_child.0 later.1 ∙ inherited.0, same d.right_child.0 later.3 ∙ inherited.1)

-- another node of the same limits in the place of one leaves all limits
limits-kept : (nodes : List BranchNode) (n m : ℕ) (node : BranchNode) → n < length nodes → node.limits ≡ limits_at nodes n → limits_at (set nodes n node) m ≡ limits_at nodes m
limits-kept nodes n m node within same = elim (cases_eq m n) [
  | inl here ↦ ap (λ (x : BranchNode). x.limits) (ap (tree_node_at (set nodes n node)) here ∙ get_or-set_same nodes n node no_tree_node within) ∙ same ∙ ap (limits_at nodes) (sym here)
  | inr other ↦ ap (λ (x : BranchNode). x.limits) (get_or-set_other nodes n m node no_tree_node other)
]

-- the children may come after a later end too
later-more : (count more n : ℕ) (fate : Fate) → count ≤ more → HasLaterChildren count n fate → HasLaterChildren more n fate
later-more count more n Undone le later = later
later-more count more n (ClosedBy found) le later = later
later-more count more n (DividedBy d) le later = (later.0, omega (arith, later.1), later.2, omega (arith, later.3))

-- another node of the same limits in the place of one, with children where they should be
AreNodes-set : (nodes : List BranchNode) (n : ℕ) (node : BranchNode) → AreNodes nodes → n < length nodes → node.limits ≡ limits_at nodes n → HasLaterChildren (length nodes) n node.fate → AreInherited (limits_at nodes) (limits_at nodes n) node.fate → AreNodes (set nodes n node)
AreNodes-set nodes n node are within limits later inherited = record {
  some = omega (arith, same);
  few = omega (arith, same, are.few);
  root = kept 0 ∙ are.root;
  later = λ m below. later_at m (omega (arith, same)) (cases_eq m n);
  inherited = λ m below. inherited_at m (omega (arith, same)) (cases_eq m n);
}
  where
    new : List BranchNode
    new = set nodes n node

    same : length new ≡ length nodes
    same = length-set nodes n node

    kept : (m : ℕ) → limits_at new m ≡ limits_at nodes m
    kept m = limits-kept nodes n m node within limits

    fate_here : (m : ℕ) → m ≡ n → (tree_node_at new m).fate ≡ node.fate
    fate_here m here = ap (λ (x : BranchNode). x.fate) (ap (tree_node_at new) here ∙ get_or-set_same nodes n node no_tree_node within)

    fate_other : (m : ℕ) → (m ≡ n → ⊥) → (tree_node_at new m).fate ≡ (tree_node_at nodes m).fate
    fate_other m other = ap (λ (x : BranchNode). x.fate) (get_or-set_other nodes n m node no_tree_node other)

    later_at : (m : ℕ) → m < length nodes → (m ≡ n) ⊎ (m ≡ n → ⊥) → HasLaterChildren (length new) m (tree_node_at new m).fate
    later_at m below (inl here) = subst₂ (λ (j : ℕ) (f : Fate). HasLaterChildren (length new) j f) (sym here) (sym (fate_here m here)) (subst (λ (count : ℕ). HasLaterChildren count n node.fate) (sym same) later)
    later_at m below (inr other) = subst₂ (λ (count : ℕ) (f : Fate). HasLaterChildren count m f) (sym same) (sym (fate_other m other)) (are.later m below)

    inherited_by : (m : ℕ) (fate : Fate) → (tree_node_at new m).fate ≡ fate → HasLaterChildren (length nodes) m fate → AreInherited (limits_at nodes) (limits_at nodes m) fate → AreInherited (limits_at new) (limits_at new m) (tree_node_at new m).fate
    inherited_by m fate is behind known =
        subst₂ (λ (ls : List Limit) (f : Fate). AreInherited (limits_at new) ls f) (sym (kept m)) (sym is)
        (inherited-same (length nodes) m (limits_at nodes) (limits_at new) (limits_at nodes m) fate (λ j inside. kept j) behind known)

    inherited_at : (m : ℕ) → m < length nodes → (m ≡ n) ⊎ (m ≡ n → ⊥) → AreInherited (limits_at new) (limits_at new m) (tree_node_at new m).fate
    inherited_at m below (inl here) =
        inherited_by m node.fate (fate_here m here) (subst (λ (j : ℕ). HasLaterChildren (length nodes) j node.fate) (sym here) later)
        (subst (λ (j : ℕ). AreInherited (limits_at nodes) (limits_at nodes j) node.fate) (sym here) inherited)
    inherited_at m below (inr other) = inherited_by m (tree_node_at nodes m).fate (fate_other m other) (are.later m below) (are.inherited m below)

-- another fate of one node, open or closed
pub AreNodes-with_fate : (nodes : List BranchNode) (n : ℕ) (fate : Fate) → AreNodes nodes → n < length nodes → ((count : ℕ) → HasLaterChildren count n fate) → ((limits_of : ℕ → List Limit) (limits : List Limit) → AreInherited limits_of limits fate) → AreNodes (with_fate nodes n fate)
AreNodes-with_fate nodes n fate are within later inherited =
    AreNodes-set nodes n (record (tree_node_at nodes n) { fate = fate }) are within refl (later (length nodes)) (inherited (limits_at nodes) (limits_at nodes n))

-- a split of an open node with its children at the end
pub AreNodes-with_division : (old : List BranchNode) (n : ℕ) (d : Division) → AreNodes old → n < length old → suc (suc (length old)) < 2 ^ 32 → d.left_child.0 ≡ length old → d.right_child.0 ≡ suc (length old) → AreNodes (with_division old n d)
AreNodes-with_division old n d are within room left right = record {
  some = omega (arith, long);
  few = omega (arith, long);
  root = limits_before 0 are.some ∙ are.root;
  later = λ m below. later_at m below (cases_lt m (length old)) (cases_eq m n);
  inherited = λ m below. inherited_at m below (cases_lt m (length old)) (cases_eq m n);
}
  where
    parent : BranchNode
    parent = tree_node_at old n

    node : BranchNode
    node = record parent { fate = DividedBy d }

    front : List BranchNode
    front = set old n node

    last : List BranchNode
    last = child_of parent (left_limit d.by) ∷ child_of parent (right_limit d.by) ∷ []

    new : List BranchNode
    new = front ++ last

    same : length front ≡ length old
    same = length-set old n node

    long : length new ≡ suc (suc (length old))
    long = (let both = length-append front last in omega (arith, same))

    -- a node before the children, and a child
    before : (m : ℕ) → m < length old → tree_node_at new m ≡ tree_node_at front m
    before m inside = get_or_append_left front last no_tree_node m (omega (arith, same))

    behind : (m i : ℕ) → m ≡ length old + i → tree_node_at new m ≡ get_or last i no_tree_node
    behind m i is = get_or-append_right front last (length old) m no_tree_node same (omega arith) ∙ ap (λ (j : ℕ). get_or last j no_tree_node) (let gap : m - length old ≡ i = omega arith in gap)

    here : (m : ℕ) → m < length old → m ≡ n → tree_node_at new m ≡ node
    here m inside is = before m inside ∙ ap (tree_node_at front) is ∙ get_or-set_same old n node no_tree_node within

    other : (m : ℕ) → m < length old → (m ≡ n → ⊥) → tree_node_at new m ≡ tree_node_at old m
    other m inside apart = before m inside ∙ get_or-set_other old n m node no_tree_node apart

    open_child : (i : ℕ) → i < 2 → (get_or last i no_tree_node).fate ≡ Undone
    open_child zero below = refl
    open_child (suc zero) below = refl
    open_child (suc (suc i)) below = absurd (omega arith)

    child_open : (m : ℕ) → m < length new → length old ≤ m → (tree_node_at new m).fate ≡ Undone
    child_open m below past = ap (λ (x : BranchNode). x.fate) (behind m (m - length old) (omega arith)) ∙ open_child (m - length old) (omega (arith, long))

    limits_before : (m : ℕ) → m < length old → limits_at new m ≡ limits_at old m
    limits_before m inside = ap (λ (x : BranchNode). x.limits) (before m inside) ∙ limits-kept old n m node within refl

    later_at : (m : ℕ) → m < length new → (m < length old) ⊎ (length old ≤ m) → (m ≡ n) ⊎ (m ≡ n → ⊥) → HasLaterChildren (length new) m (tree_node_at new m).fate
    later_at m below (inr past) which = subst (HasLaterChildren (length new) m) (sym (child_open m below past)) tt
    later_at m below (inl inside) (inl is) = subst (λ (x : BranchNode). HasLaterChildren (length new) m x.fate) (sym (here m inside is)) (omega (arith, long), omega (arith, long), omega (arith, long), omega (arith, long))
    later_at m below (inl inside) (inr apart) = subst (λ (x : BranchNode). HasLaterChildren (length new) m x.fate) (sym (other m inside apart)) (later-more (length old) (length new) m (tree_node_at old m).fate (omega (arith, long)) (are.later m inside))

    child_limits : (m i : ℕ) (more : Limit) → m ≡ length old + i → get_or last i no_tree_node ≡ child_of parent more → limits_at new m ≡ more ∷ parent.limits
    child_limits m i more at is = ap (λ (x : BranchNode). x.limits) (behind m i at ∙ is)

    inherited_at : (m : ℕ) → m < length new → (m < length old) ⊎ (length old ≤ m) → (m ≡ n) ⊎ (m ≡ n → ⊥) → AreInherited (limits_at new) (limits_at new m) (tree_node_at new m).fate
    inherited_at m below (inr past) which = subst (AreInherited (limits_at new) (limits_at new m)) (sym (child_open m below past)) tt
    inherited_at m below (inl inside) (inl is) =
        subst (λ (x : BranchNode). AreInherited (limits_at new) x.limits x.fate) (sym (here m inside is))
        (child_limits d.left_child.0 0 (left_limit d.by) (omega arith) refl, child_limits d.right_child.0 1 (right_limit d.by) (omega arith) refl)
    inherited_at m below (inl inside) (inr apart) =
        subst (λ (x : BranchNode). AreInherited (limits_at new) x.limits x.fate) (sym (other m inside apart))
        (inherited-same (length old) m (limits_at old) (limits_at new) (limits_at old m) (tree_node_at old m).fate limits_before (are.later m inside) (are.inherited m inside))

-- a node that was read, written back with another fate or other prices, also where nodes follow
pub set-with_fate : (nodes : List BranchNode) (n : ℕ) (node : BranchNode) (fate : Fate) → n < length nodes → node ≡ get_or nodes n node → set nodes n (record node { fate = fate }) ≡ with_fate nodes n fate
set-with_fate nodes n node fate within read = ap (λ (x : BranchNode). set nodes n (record x { fate = fate })) (read ∙ get_or_default nodes n node no_tree_node within)

-- a split node that is read and written back keeps the nodes behind it
pub set-with_division : (nodes last : List BranchNode) (n : ℕ) (node : BranchNode) (fate : Fate) → n < length nodes → node ≡ get_or (nodes ++ last) n node → set (nodes ++ last) n (record node { fate = fate }) ≡ with_fate nodes n fate ++ last
set-with_division nodes last n node fate within read =
    set-append_left nodes last n (record node { fate = fate }) within
    ∙ ap (λ (front : List BranchNode). front ++ last) (set-with_fate nodes n node fate within (read ∙ get_or_append_left nodes last node n within))

-- the nodes with both children behind them, where the parent is written back as split
pub set-is_division : (old nodes : List BranchNode) (n : ℕ) (d : Division) (node : BranchNode) → n < length old → nodes ≡ old ++ (child_of (tree_node_at old n) (left_limit d.by) ∷ child_of (tree_node_at old n) (right_limit d.by) ∷ []) → node ≡ get_or nodes n node
    → set nodes n (record node { fate = DividedBy d }) ≡ with_division old n d
set-is_division old nodes n d node within grown read =
    let last : List BranchNode = child_of (tree_node_at old n) (left_limit d.by) ∷ child_of (tree_node_at old n) (right_limit d.by) ∷ [] in
    ap (λ (xs : List BranchNode). set xs n (record node { fate = DividedBy d })) grown
    ∙ set-with_division old last n node (DividedBy d) within (read ∙ ap (λ (xs : List BranchNode). get_or xs n node) grown)
