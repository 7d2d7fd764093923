-- Each feasible design lies in a leaf: a split loses no design, since a simple path leaves a node at most once and a place has one load.
use Rattle.std.proofs.Common.{◌≡◌, ℕ, suc, ◌<◌, ◌⊎◌, inl, inr, Bool, true, false, ◌&&◌, ◌==◌, List, [], ◌∷◌, length, get_or, Option, All, refl, sym, ap, subst, ◌∙◌, arith}
use Rattle.std.specs.Prelude.{⊤}
use Rattle.std.specs.List.{list_any, Any}
use Rattle.std.proofs.lemmas.Bool.{eqb-true}
use Rattle.std.proofs.lemmas.List.{get_or_default}
use Rattle.std.proofs.lemmas.List.Elements.{All-nil, All-cons}
use Rattle.std.proofs.lemmas.List.Folds.{Any-from_list_any}
use Rattle.plan_base.specs.declared.ids.NodeId.{NodeId}
use Rattle.plan_base.specs.declared.ids.ArcId.{ArcId}
use Rattle.plan_base.specs.declared.ids.DemandId.{DemandId}
use Rattle.plan_base.specs.declared.parts.Parts.{Parts}
use Rattle.plan_base.specs.declared.path.Design.{Design}
use Rattle.plan_base.specs.Arcs.{tail_of, demand_at, no_arc}
use Rattle.plan_base.specs.Paths.{arc_at}
use Rattle.plan_base.specs.Designs.{path_at, IsDesign, IsFeasible}
use Rattle.plan_base.proofs.Bools.{or-false_both, or-both_false, list_any-false_at}
use Rattle.arc_restrict.specs.Restrictions.{Forbidden, is_among, with_forbidden, LiesIn}
use Rattle.plan_base.proofs.SimplePaths.{leaves_node-once}
use Rattle.proof_tree.specs.declared.tree.TreeNode.{TreeNode}
use Rattle.proof_tree.specs.declared.tree.TreeNode.TheVariants.{Split, Loads, Leaf}
use Rattle.link_steps.specs.Ranges.{AreRanges}
use Rattle.proof_tree.specs.Regions.{Region, whole, with_arcs, up_to, above, LiesWithin}
use Rattle.proof_tree.specs.Splits.{IsSide, IsSplit}
use Rattle.proof_tree.specs.Trees.{AreValidTrees, LeafAt, leaves_at, leaves_of, IsValidTree}
use Rattle.proof_tree.proofs.RangeLaws.{in_one_range, lies-whole}

arc-same : (a b : ArcId) → b.0 ≡ a.0 → b ≡ a
arc-same a b h = ap (λ (n : ℕ). let c : ArcId = record { 0 = n } in c) h

-- what holds of all arcs holds of one among them
pub is_among-All : (P : ArcId → Type 0) (arcs : List ArcId) (a : ArcId) → All P arcs → is_among arcs a ≡ true → P a
is_among-All P arcs a all among =
    let found = Any-from_list_any (λ (b : ArcId). b.0 == a.0) arcs among in
    subst P (found.3 ∙ arc-same a found.1 (eqb-true _ _ found.4)) (all found.0 found.1 found.2)

-- the arcs of a path that are among these arcs
record Meets (arcs path : List ArcId) : Type 0 where
  place : ℕ
  within : place < length path
  among : is_among arcs (arc_at path place) ≡ true

Meets-list_any : (arcs path : List ArcId) → list_any (is_among arcs) path ≡ true → Meets arcs path
Meets-list_any arcs path h =
    let found = Any-from_list_any (is_among arcs) path h in
    record {
      place = found.0;
      within = found.2;
      among = ap (is_among arcs) (get_or_default path found.0 no_arc found.1 found.2 ∙ found.3) ∙ found.4;
    }

-- a simple path does not meet both sides of a split
meets_one_side : (p : Parts) (r : Forbidden) (id : DemandId) (node : NodeId) (left right : List ArcId) (d : Design) → IsSplit p r id node left right → IsDesign p d → Meets left (path_at d id.0) → Meets right (path_at d id.0) → ⊥
meets_one_side p r id node left right d split design on_left on_right =
    let path = path_at d id.0 in
    let leaves = λ (side : List ArcId) (a : ArcId) (s : IsSide p r id node side) (among : is_among side a ≡ true). is_among-All (λ b. (tail_of p b).0 ≡ node.0) side a s.leave among in
    let one : on_left.place ≡ on_right.place =
    leaves_node-once p (demand_at p id.0) path on_left.place on_right.place (design.paths id.0 split.demand) on_left.within on_right.within
    (leaves left (arc_at path on_left.place) split.left_side on_left.among ∙ sym (leaves right (arc_at path on_right.place) split.right_side on_right.among)) in
    let not_right : is_among right (arc_at path on_left.place) ≡ false = is_among-All (λ b. is_among right b ≡ false) left _ split.disjoint on_left.among in
    let is_right : is_among right (arc_at path on_left.place) ≡ true = ap (λ i. is_among right (arc_at path i)) one ∙ on_right.among in
    let bad : true ≡ false = sym is_right ∙ not_right in
    cc

-- a design that does not meet the arcs also lies in the restriction that forbids them
lies_in-with_forbidden : (p : Parts) (r : Forbidden) (id : DemandId) (arcs : List ArcId) (d : Design) → LiesIn p d r → list_any (is_among arcs) (path_at d id.0) ≡ false → LiesIn p d (with_forbidden r id arcs)
lies_in-with_forbidden p r id arcs d lies none k below i dflt within = or-both_false _ _ (lies k below i dflt within) (by_cases (k == id.0) refl)
  where
    by_cases : (b : Bool) → (k == id.0) ≡ b → (b && is_among arcs (get_or (path_at d k) i dflt)) ≡ false
    by_cases false is = refl
    by_cases true is =
        let same : k ≡ id.0 = eqb-true _ _ is in
        list_any-false_at (is_among arcs) (path_at d k) i dflt within (ap (λ j. list_any (is_among arcs) (path_at d j)) same ∙ none)

-- a split loses no design
in_one_child : (p : Parts) (r : Forbidden) (id : DemandId) (node : NodeId) (left right : List ArcId) (d : Design) → IsSplit p r id node left right → IsDesign p d → LiesIn p d r → LiesIn p d (with_forbidden r id left) ⊎ LiesIn p d (with_forbidden r id right)
in_one_child p r id node left right d split design lies = by_cases (list_any (is_among left) (path_at d id.0)) (list_any (is_among right) (path_at d id.0)) refl refl
  where
    by_cases : (b c : Bool) → list_any (is_among left) (path_at d id.0) ≡ b → list_any (is_among right) (path_at d id.0) ≡ c → LiesIn p d (with_forbidden r id left) ⊎ LiesIn p d (with_forbidden r id right)
    by_cases false c x y = inl (lies_in-with_forbidden p r id left d lies x)
    by_cases true false x y = inr (lies_in-with_forbidden p r id right d lies y)
    by_cases true true x y = absurd (meets_one_side p r id node left right d split design (Meets-list_any left (path_at d id.0) x) (Meets-list_any right (path_at d id.0) y))

-- what holds of the first item holds of some item
pub Any-here : {X : Type 0} (P : X → Type 0) (x : X) (xs : List X) → P x → Any P (x ∷ xs)
Any-here P x xs h = (0, x, omega arith, refl, h)

-- what holds of some item behind the first one holds of some item
pub Any-there : {X : Type 0} (P : X → Type 0) (x : X) (xs : List X) → Any P xs → Any P (x ∷ xs)
Any-there P x xs h = (suc h.0, h.1, (let below = h.2 in omega arith), h.3, h.4)

-- a design in a region lies in a child of each split of it
pub in_one_side : (p : Parts) (g : Region) (id : DemandId) (node : NodeId) (left right : List ArcId) (d : Design) → IsSplit p g.forbidden id node left right → IsDesign p d → LiesWithin p d g
    → LiesWithin p d (with_arcs g id left) ⊎ LiesWithin p d (with_arcs g id right)
in_one_side p g id node left right d split design lies = elim (in_one_child p g.forbidden id node left right d split design lies.paths) [
  | inl paths ↦ inl (record { paths = paths; loads = lies.loads })
  | inr paths ↦ inr (record { paths = paths; loads = lies.loads })
]

-- the design lies in one of the regions
abbrev pub LiesInOne : Parts → Design → List Region → Type 0
LiesInOne p d [] = ⊥
LiesInOne p d (g ∷ gs) = LiesWithin p d g ⊎ LiesInOne p d gs

covers : (p : Parts) (cost : Option ℕ) (d : Design) → IsDesign p d → (gs : List Region) (records : List TreeNode) → AreValidTrees p cost gs records → LiesInOne p d gs → Any (λ leaf. LiesWithin p d leaf.region) (leaves_at gs records)
covers p cost d design [] records trees lies = absurd lies
covers p cost d design (g ∷ gs) [] trees lies = absurd trees
covers p cost d design (g ∷ gs) (Leaf evidence ∷ records) trees lies =
    elim lies [
      | inl here ↦ Any-here (λ leaf. LiesWithin p d leaf.region) _ _ here
      | inr later ↦ Any-there (λ leaf. LiesWithin p d leaf.region) _ _ (covers p cost d design gs records trees.1 later)
    ]
covers p cost d design (g ∷ gs) (Split id node left right ∷ records) trees lies =
    covers p cost d design (with_arcs g id left ∷ with_arcs g id right ∷ gs) records trees.1
    (elim lies [
      | inl here ↦ elim (in_one_side p g id node left right d trees.0 design here) [ inl in_left ↦ inl in_left | inr in_right ↦ inr (inl in_right) ]
      | inr later ↦ inr (inr later)
    ])
covers p cost d design (g ∷ gs) (Loads place load ∷ records) trees lies =
    covers p cost d design (up_to g place load ∷ above g place load ∷ gs) records trees.1
    (elim lies [
      | inl here ↦ elim (in_one_range p d g place load trees.0 here) [ inl in_left ↦ inl in_left | inr in_right ↦ inr (inl in_right) ]
      | inr later ↦ inr (inr later)
    ])

-- each feasible design lies in a leaf of a valid tree
pub tree-covers : (p : Parts) (cost : Option ℕ) (records : List TreeNode) (d : Design) → IsValidTree p cost records → IsDesign p d → IsFeasible p d → Any (λ leaf. LiesWithin p d leaf.region) (leaves_of p records)
tree-covers p cost records d valid design feasible =
    covers p cost d design (whole p ∷ []) records valid (inl (lies-whole p d design feasible))

-- the ranges of these regions are ranges
abbrev pub HaveRanges : Parts → List Region → Type 0
HaveRanges p [] = ⊤
HaveRanges p (g ∷ gs) = AreRanges p g.ranges × HaveRanges p gs

-- where no record passes a test, no leaf does
pub leaves-fail : (test : TreeNode → Bool) (gs : List Region) (records : List TreeNode) → list_any test records ≡ false → All (λ leaf. test (Leaf leaf.evidence) ≡ false) (leaves_at gs records)
leaves-fail test [] records none = All-nil (λ (leaf : LeafAt). test (Leaf leaf.evidence) ≡ false)
leaves-fail test (g ∷ gs) [] none = All-nil (λ (leaf : LeafAt). test (Leaf leaf.evidence) ≡ false)
leaves-fail test (g ∷ gs) (Leaf evidence ∷ records) none =
    let both = or-false_both (test (Leaf evidence)) (list_any test records) none in
    All-cons (λ (leaf : LeafAt). test (Leaf leaf.evidence) ≡ false) _ _ both.0 (leaves-fail test gs records both.1)
leaves-fail test (g ∷ gs) (Split id node left right ∷ records) none =
    leaves-fail test (with_arcs g id left ∷ with_arcs g id right ∷ gs) records (or-false_both (test (Split id node left right)) (list_any test records) none).1
leaves-fail test (g ∷ gs) (Loads place load ∷ records) none =
    leaves-fail test (up_to g place load ∷ above g place load ∷ gs) records (or-false_both (test (Loads place load)) (list_any test records) none).1
