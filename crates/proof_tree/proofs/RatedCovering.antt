-- Each feasible design lies in a leaf of a valid tree with cuts, and each leaf has its evidence and ranges.
use Rattle.std.proofs.Common.{inl, inr, List, [], ◌∷◌, Option, ℕ}
use Rattle.std.specs.Prelude.{All, Any}
use Rattle.std.proofs.lemmas.List.Elements.{All-nil, All-cons}
use Rattle.plan_base.specs.declared.parts.Parts.{Parts}
use Rattle.plan_base.specs.declared.path.Design.{Design}
use Rattle.plan_base.specs.Designs.{IsDesign, IsFeasible}
use Rattle.link_steps.specs.Ranges.{AreRanges}
use Rattle.link_steps.proofs.WholeRanges.{AreRanges-whole}
use Rattle.proof_tree.specs.declared.cuts.Cut.{Cut}
use Rattle.proof_tree.specs.declared.tree.TreeNode.{TreeNode}
use Rattle.proof_tree.specs.declared.tree.TreeNode.TheVariants.{Split, Loads, Leaf}
use Rattle.proof_tree.specs.Regions.{Region, whole, with_arcs, up_to, above, LiesWithin}
use Rattle.proof_tree.specs.Trees.{LeafAt, leaves_at, leaves_of}
use Rattle.proof_tree.specs.RatedEvidence.{HasRatedEvidence}
use Rattle.proof_tree.specs.RatedTrees.{AreRatedTrees, IsRatedTree}
use Rattle.proof_tree.proofs.RangeLaws.{lies-whole, in_one_range, AreRanges-up_to, AreRanges-above}
use Rattle.proof_tree.proofs.Covering.{Any-here, Any-there, in_one_side, LiesInOne, HaveRanges}

rated_covers : (p : Parts) (cuts : List Cut) (cost : Option ℕ) (d : Design) → IsDesign p d → (gs : List Region) (records : List TreeNode) → AreRatedTrees p cuts cost gs records → LiesInOne p d gs → Any (λ leaf. LiesWithin p d leaf.region) (leaves_at gs records)
rated_covers p cuts cost d design [] records trees lies = absurd lies
rated_covers p cuts cost d design (g ∷ gs) [] trees lies = absurd trees
rated_covers p cuts cost d design (g ∷ gs) (Leaf evidence ∷ records) trees lies =
    elim lies [
      | inl here ↦ Any-here (λ leaf. LiesWithin p d leaf.region) _ _ here
      | inr later ↦ Any-there (λ leaf. LiesWithin p d leaf.region) _ _ (rated_covers p cuts cost d design gs records trees.1 later)
    ]
rated_covers p cuts cost d design (g ∷ gs) (Split id node left right ∷ records) trees lies =
    rated_covers p cuts cost d design (with_arcs g id left ∷ with_arcs g id right ∷ gs) records trees.1
    (elim lies [
      | inl here ↦ elim (in_one_side p g id node left right d trees.0 design here) [ inl in_left ↦ inl in_left | inr in_right ↦ inr (inl in_right) ]
      | inr later ↦ inr (inr later)
    ])
rated_covers p cuts cost d design (g ∷ gs) (Loads place load ∷ records) trees lies =
    rated_covers p cuts cost d design (up_to g place load ∷ above g place load ∷ gs) records trees.1
    (elim lies [
      | inl here ↦ elim (in_one_range p d g place load trees.0 here) [ inl in_left ↦ inl in_left | inr in_right ↦ inr (inl in_right) ]
      | inr later ↦ inr (inr later)
    ])

-- each design in a region lies in a leaf of a valid tree of it
pub rated_region-covers : (p : Parts) (cuts : List Cut) (cost : Option ℕ) (g : Region) (records : List TreeNode) (d : Design) → AreRatedTrees p cuts cost (g ∷ []) records → IsDesign p d → LiesWithin p d g → Any (λ leaf. LiesWithin p d leaf.region) (leaves_at (g ∷ []) records)
rated_region-covers p cuts cost g records d trees design within = rated_covers p cuts cost d design (g ∷ []) records trees (inl within)

-- each feasible design lies in a leaf of a valid tree with cuts
pub rated_tree-covers : (p : Parts) (cuts : List Cut) (cost : Option ℕ) (records : List TreeNode) (d : Design) → IsRatedTree p cuts cost records → IsDesign p d → IsFeasible p d → Any (λ leaf. LiesWithin p d leaf.region) (leaves_of p records)
rated_tree-covers p cuts cost records d valid design feasible =
    rated_covers p cuts cost d design (whole p ∷ []) records valid (inl (lies-whole p d design feasible))

-- each leaf has its evidence
pub rated_leaves-evidence : (p : Parts) (cuts : List Cut) (cost : Option ℕ) (gs : List Region) (records : List TreeNode) → AreRatedTrees p cuts cost gs records → All (λ leaf. HasRatedEvidence p cuts cost leaf.region leaf.evidence) (leaves_at gs records)
rated_leaves-evidence p cuts cost [] records trees = All-nil (λ (leaf : LeafAt). HasRatedEvidence p cuts cost leaf.region leaf.evidence)
rated_leaves-evidence p cuts cost (g ∷ gs) [] trees = absurd trees
rated_leaves-evidence p cuts cost (g ∷ gs) (Leaf evidence ∷ records) trees = All-cons (λ (leaf : LeafAt). HasRatedEvidence p cuts cost leaf.region leaf.evidence) _ _ trees.0 (rated_leaves-evidence p cuts cost gs records trees.1)
rated_leaves-evidence p cuts cost (g ∷ gs) (Split id node left right ∷ records) trees = rated_leaves-evidence p cuts cost (with_arcs g id left ∷ with_arcs g id right ∷ gs) records trees.1
rated_leaves-evidence p cuts cost (g ∷ gs) (Loads place load ∷ records) trees = rated_leaves-evidence p cuts cost (up_to g place load ∷ above g place load ∷ gs) records trees.1

rated_leaves-have_ranges : (p : Parts) (cuts : List Cut) (cost : Option ℕ) (gs : List Region) (records : List TreeNode) → AreRatedTrees p cuts cost gs records → HaveRanges p gs → All (λ leaf. AreRanges p leaf.region.ranges) (leaves_at gs records)
rated_leaves-have_ranges p cuts cost [] records trees have = All-nil (λ (leaf : LeafAt). AreRanges p leaf.region.ranges)
rated_leaves-have_ranges p cuts cost (g ∷ gs) [] trees have = absurd trees
rated_leaves-have_ranges p cuts cost (g ∷ gs) (Leaf evidence ∷ records) trees have = All-cons (λ (leaf : LeafAt). AreRanges p leaf.region.ranges) _ _ have.0 (rated_leaves-have_ranges p cuts cost gs records trees.1 have.1)
rated_leaves-have_ranges p cuts cost (g ∷ gs) (Split id node left right ∷ records) trees have = rated_leaves-have_ranges p cuts cost (with_arcs g id left ∷ with_arcs g id right ∷ gs) records trees.1 (have.0, (have.0, have.1))
rated_leaves-have_ranges p cuts cost (g ∷ gs) (Loads place load ∷ records) trees have =
    rated_leaves-have_ranges p cuts cost (up_to g place load ∷ above g place load ∷ gs) records trees.1 (AreRanges-up_to p g place load trees.0 have.0, (AreRanges-above p g place load trees.0 have.0, have.1))

-- the ranges of each leaf are ranges
pub rated_leaves-ranges : (p : Parts) (cuts : List Cut) (cost : Option ℕ) (records : List TreeNode) → IsRatedTree p cuts cost records → All (λ leaf. AreRanges p leaf.region.ranges) (leaves_of p records)
rated_leaves-ranges p cuts cost records valid = rated_leaves-have_ranges p cuts cost (whole p ∷ []) records valid (AreRanges-whole p, tt)
