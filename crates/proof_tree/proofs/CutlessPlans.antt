-- Without cuts evidence and trees are what they are at prices alone.
use Rattle.std.proofs.Common.{◌≡◌, ℕ, ◌+◌, ◌<◌, ◌≤◌, inl, inr, List, [], ◌∷◌, ◌++◌, length, slice_index, Option, Some, None, sym, subst, arith}
use Rattle.std.specs.Prelude.{◌↔◌, ℤ}
use Rattle.std.proofs.lemmas.List.{get_or_past}
use Rattle.std.proofs.lemmas.List.Elements.{All-drop}
use Rattle.plan_base.specs.declared.parts.Parts.{Parts}
use Rattle.plan_base.specs.Facts.{price_limit}
use Rattle.plan_base.specs.Places.{places}
use Rattle.link_steps.proofs.Order.{either_way}
use Rattle.arc_restrict.specs.Prices.{AreWithinLimit}
use Rattle.proof_tree.specs.declared.cuts.Cut.{Cut as LoadCut}
use Rattle.proof_tree.specs.declared.tree.Evidence.{Evidence}
use Rattle.proof_tree.specs.declared.tree.Evidence.TheVariants.{Bound, Routed, Overfull, Cut, Far, Crowd, Open}
use Rattle.proof_tree.specs.declared.tree.TreeNode.{TreeNode}
use Rattle.proof_tree.specs.declared.tree.TreeNode.TheVariants.{Split, Loads, Leaf}
use Rattle.proof_tree.specs.declared.plan.Plan.{Plan}
use Rattle.proof_tree.specs.Cuts.{IsCutList}
use Rattle.proof_tree.specs.Regions.{Region, whole}
use Rattle.proof_tree.specs.Evidence.{ClosedByBound, HasEvidence}
use Rattle.proof_tree.specs.Trees.{children_at, IsValidRecord, AreValidTrees, IsValidTree}
use Rattle.proof_tree.specs.Bounds.{IsBound}
use Rattle.proof_tree.specs.Plans.{stated_cost}
use Rattle.proof_tree.specs.RatedEvidence.{rates_in, AreLawfulNumbers, IsBoundAt, ClosedByRatedBound, HasRatedEvidence}
use Rattle.proof_tree.specs.RatedTrees.{IsRatedRecord, AreRatedTrees, IsRatedTree}
use Rattle.proof_tree.proofs.CutlessBounds.{bound-without_cuts}

-- prices within the limit are lawful without cuts
pub lawful-without : (p : Parts) (numbers : List ℕ) → AreWithinLimit p numbers → AreLawfulNumbers p [] numbers
lawful-without p numbers within = record {
  prices_within = within;
  rates_within = All-drop (λ price. price ≤ price_limit p) (places p) numbers within;
  each = λ q below. record { within_limit = one q; cover_routing = λ positive. absurd (let none : 0 < 0 = positive in omega arith) };
}
  where
    price-within : (q : ℕ) → slice_index numbers q ≤ price_limit p
    price-within q = elim (either_way (length numbers) q) [
      | inl past ↦ (let none : slice_index numbers q ≡ 0 = get_or_past numbers q 0 past in omega (arith, none))
      | inr inside ↦ within q 0 inside
    ]

    one : (q : ℕ) → slice_index numbers q + 0 ≤ price_limit p
    one q = omega (arith, price-within q)

bound-closed : (p : Parts) (g : Region) (numbers : List ℕ) (cost : ℕ) → ClosedByBound p g numbers cost → ClosedByRatedBound p [] g numbers cost
bound-closed p g numbers cost closed = record {
  lawful = lawful-without p numbers closed.within_limit;
  bound = closed.bound;
  is_bound = (bound-without_cuts p g numbers (rates_in p numbers) closed.bound).0 closed.is_bound;
  unit = closed.unit;
  is_unit = closed.is_unit;
  enough = closed.enough;
}

bound-closed_so : (p : Parts) (g : Region) (numbers : List ℕ) (cost : ℕ) → ClosedByRatedBound p [] g numbers cost → ClosedByBound p g numbers cost
bound-closed_so p g numbers cost closed = record {
  within_limit = closed.lawful.prices_within;
  bound = closed.bound;
  is_bound = (bound-without_cuts p g numbers (rates_in p numbers) closed.bound).1 closed.is_bound;
  unit = closed.unit;
  is_unit = closed.is_unit;
  enough = closed.enough;
}

-- the evidence of a leaf is what it is at prices alone
pub evidence-without : (p : Parts) (cost : Option ℕ) (g : Region) (evidence : Evidence) → HasEvidence p cost g evidence ↔ HasRatedEvidence p [] cost g evidence
evidence-without p None g (Bound numbers) = (λ h. h, λ h. h)
evidence-without p (Some c) g (Bound numbers) = (bound-closed p g numbers c, bound-closed_so p g numbers c)
evidence-without p cost g Routed = (λ h. h, λ h. h)
evidence-without p cost g (Overfull link) = (λ h. h, λ h. h)
evidence-without p cost g (Cut id reached) = (λ h. h, λ h. h)
evidence-without p cost g (Far id) = (λ h. h, λ h. h)
evidence-without p cost g (Crowd prices) = (λ h. h, λ h. h)
evidence-without p cost g (Open numbers) = (lawful-without p numbers, λ h. h.prices_within)

node-without : (p : Parts) (cost : Option ℕ) (g : Region) (node : TreeNode) → IsValidRecord p cost g node ↔ IsRatedRecord p [] cost g node
node-without p cost g (Leaf evidence) = evidence-without p cost g evidence
node-without p cost g (Split id node left right) = (λ h. h, λ h. h)
node-without p cost g (Loads place load) = (λ h. h, λ h. h)

trees-without : (p : Parts) (cost : Option ℕ) (gs : List Region) (nodes : List TreeNode) → AreValidTrees p cost gs nodes ↔ AreRatedTrees p [] cost gs nodes
trees-without p cost [] [] = (λ h. h, λ h. h)
trees-without p cost [] (node ∷ nodes) = (λ h. h, λ h. h)
trees-without p cost (g ∷ gs) [] = (λ h. h, λ h. h)
trees-without p cost (g ∷ gs) (node ∷ nodes) =
    let here = node-without p cost g node in
    let rest = trees-without p cost (children_at g node ++ gs) nodes in
    (λ h. (here.0 h.0, rest.0 h.1), λ h. (here.1 h.0, rest.1 h.1))

-- a tree is valid without cuts exactly where it is at prices alone
pub tree-without : (p : Parts) (cost : Option ℕ) (nodes : List TreeNode) → IsValidTree p cost nodes ↔ IsRatedTree p [] cost nodes
tree-without p cost nodes = trees-without p cost (whole p ∷ []) nodes

-- so it is for the tree of a plan whose list of cuts is empty
pub plan-without_cuts : (p : Parts) (plan : Plan) → plan.cuts ≡ [] → IsValidTree p (stated_cost plan) plan.tree ↔ IsRatedTree p plan.cuts (stated_cost plan) plan.tree
plan-without_cuts p plan none = subst (λ (cuts : List LoadCut). IsValidTree p (stated_cost plan) plan.tree ↔ IsRatedTree p cuts (stated_cost plan) plan.tree) (sym none) (tree-without p (stated_cost plan) plan.tree)

-- an open leaf of such a plan has the bound that it has at prices alone
pub open-without : (p : Parts) (cuts : List LoadCut) (g : Region) (numbers : List ℕ) (bound : ℤ) → cuts ≡ [] → IsBound p g numbers bound ↔ IsBoundAt p cuts g numbers bound
open-without p cuts g numbers bound none = subst (λ (list : List LoadCut). IsBound p g numbers bound ↔ IsBoundAt p list g numbers bound) (sym none) (bound-without_cuts p g numbers (rates_in p numbers) bound)

-- the empty list is a list of cuts
pub no_cuts : (p : Parts) → IsCutList p []
no_cuts p = record { few = omega arith; are_cuts = λ i below. absurd (let none : i < 0 = below in omega arith); different = λ i j less below same. absurd (let none : j < 0 = below in omega arith) }
