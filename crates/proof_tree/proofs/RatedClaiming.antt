-- What a valid plan claims is so.
use Rattle.std.proofs.Common.{◌≡◌, ℕ, ◌<◌, ◌≤◌, inl, inr, Bool, true, false, List, [], ◌∷◌, length, slice_index_or, Option, Some, None, refl, sym, ap, subst, arith}
use Rattle.std.specs.Prelude.{ℤ, pos, ◌+ℤ◌, ◌≤ℤ◌, ◌<ℤ◌, All, IsSome, IfSome, IsSomeAnd, MatchOption}
use Rattle.std.specs.Option.{option_map}
use Rattle.std.specs.List.{list_any}
use Rattle.std.proofs.lemmas.Int.{ints, by_lt_z}
use Rattle.plan_base.specs.declared.parts.Parts.{Parts}
use Rattle.plan_base.specs.declared.path.Design.{Design}
use Rattle.plan_base.specs.Designs.{path_at, cost_of, IsDesign, IsFeasible}
use Rattle.plan_base.specs.Claims.{IsOptimal, HasNoDesign}
use Rattle.link_steps.specs.Ranges.{AreRanges}
use Rattle.proof_tree.specs.declared.cuts.Cut.{Cut as LoadCut}
use Rattle.proof_tree.specs.declared.tree.Evidence.{Evidence}
use Rattle.proof_tree.specs.declared.tree.Evidence.TheVariants.{Bound, Routed, Overfull, Cut, Far, Crowd, Open}
use Rattle.proof_tree.specs.declared.tree.TreeNode.{TreeNode}
use Rattle.proof_tree.specs.declared.tree.TreeNode.TheVariants.{Leaf}
use Rattle.proof_tree.specs.declared.plan.PlanStatus.{PlanStatus}
use Rattle.proof_tree.specs.declared.plan.PlanStatus.TheVariants.{Optimal, Infeasible, Undecided}
use Rattle.proof_tree.specs.declared.plan.Plan.{Plan}
use Rattle.proof_tree.specs.Cuts.{AreCuts}
use Rattle.proof_tree.specs.Regions.{Region, whole}
use Rattle.proof_tree.specs.Trees.{LeafAt, leaves_of}
use Rattle.proof_tree.specs.Plans.{stated_cost, is_open, IsStatedDesign, IsOpenBound, IsCandidate, IsLeastCandidate, HasStatus, IsValidPlan, IsUndercutByNone, ClaimHolds, HasItsClaim}
use Rattle.proof_tree.specs.RatedEvidence.{rates_in, ClosedByRatedBound, HasRatedEvidence}
use Rattle.proof_tree.specs.RatedTrees.{IsRatedTree}
use Rattle.proof_tree.proofs.UnitLaws.{unit-enough}
use Rattle.proof_tree.proofs.Covering.{leaves-fail}
use Rattle.proof_tree.proofs.Claiming.{IsFeasibleIn, permitted_path, IsCostOfSome, routing-le, overfull-none, cut-none, far-none, crowd-none, none_of, stated-cost}
use Rattle.proof_tree.proofs.RatedDuality.{rated_bound-le-cost}
use Rattle.proof_tree.proofs.RatedPresence.{rated_bound-not_absent}
use Rattle.proof_tree.proofs.RatedCovering.{rated_tree-covers, rated_leaves-evidence, rated_leaves-ranges}

rated_bound-enough : (p : Parts) (cuts : List LoadCut) (g : Region) (numbers : List ℕ) (c : ℕ) (d : Design) → AreCuts p cuts → (stated : Design) × (cost_of p stated ≡ c) → ClosedByRatedBound p cuts g numbers c → IsFeasibleIn p g d → c ≤ cost_of p d
rated_bound-enough p cuts g numbers c d are (stated, is) closed h =
    let dual = rated_bound-le-cost p cuts g numbers (rates_in p numbers) closed.bound d are closed.is_bound h.design h.feasible h.lies in
    let above = subst (λ (x : ℕ). pos x <ℤ (closed.bound +ℤ pos closed.unit)) (sym is) closed.enough in
    let le = unit-enough p closed.unit closed.bound stated d closed.is_unit above dual in
    omega (arith, le, is)

-- a feasible design in a closed leaf costs at least the cost that the leaf is closed against, and there is one
rated_leaf-closed : (p : Parts) (cuts : List LoadCut) (cost : Option ℕ) (g : Region) (evidence : Evidence) (d : Design) → AreCuts p cuts → IsCostOfSome p cost → HasRatedEvidence p cuts cost g evidence → is_open (Leaf evidence) ≡ false → IsFeasibleIn p g d → IsSomeAnd cost (λ c. c ≤ cost_of p d)
rated_leaf-closed p cuts None g (Bound numbers) d are stated closed shut h = closed
rated_leaf-closed p cuts (Some c) g (Bound numbers) d are stated closed shut h = rated_bound-enough p cuts g numbers c d are stated closed h
rated_leaf-closed p cuts None g Routed d are stated closed shut h = closed
rated_leaf-closed p cuts (Some c) g Routed d are stated closed shut h = routing-le p g c d closed.costs h
rated_leaf-closed p cuts cost g (Overfull link) d are stated closed shut h = absurd (overfull-none p g link d closed h)
rated_leaf-closed p cuts cost g (Cut id reached) d are stated closed shut h = absurd (cut-none p g id reached d closed h)
rated_leaf-closed p cuts cost g (Far id) d are stated closed shut h = absurd (far-none p g id d closed h)
rated_leaf-closed p cuts cost g (Crowd prices) d are stated closed shut h = absurd (crowd-none p g prices d closed h)
rated_leaf-closed p cuts cost g (Open numbers) d are stated closed shut h = absurd (let bad : true ≡ false = shut in cc)

-- the leaf of a valid tree in which a feasible design lies
record IsRatedLeafOf (p : Parts) (cuts : List LoadCut) (cost : Option ℕ) (records : List TreeNode) (d : Design) : Type 0 where
  place : ℕ
  leaf : LeafAt
  within : place < length (leaves_of p records)
  same : slice_index_or (leaves_of p records) place leaf ≡ leaf
  evidence : HasRatedEvidence p cuts cost leaf.region leaf.evidence
  feasible : IsFeasibleIn p leaf.region d

rated_leaf_of : (p : Parts) (cuts : List LoadCut) (cost : Option ℕ) (records : List TreeNode) (d : Design) → IsRatedTree p cuts cost records → IsDesign p d → IsFeasible p d → IsRatedLeafOf p cuts cost records d
rated_leaf_of p cuts cost records d valid design feasible =
    let found = rated_tree-covers p cuts cost records d valid design feasible in
    record {
      place = found.0;
      leaf = found.1;
      within = found.2;
      same = found.3;
      evidence = subst (λ (leaf : LeafAt). HasRatedEvidence p cuts cost leaf.region leaf.evidence) found.3 (rated_leaves-evidence p cuts cost (whole p ∷ []) records valid found.0 found.1 found.2);
      feasible = record { design = design; feasible = feasible; lies = found.4 };
    }

-- what holds of all leaves holds of this one
rated_leaf-All : (p : Parts) (cuts : List LoadCut) (cost : Option ℕ) (records : List TreeNode) (d : Design) (P : LeafAt → Type 0) → (h : IsRatedLeafOf p cuts cost records d) → All P (leaves_of p records) → P h.leaf
rated_leaf-All p cuts cost records d P h all = subst P h.same (all h.place h.leaf h.within)

rated_leaf-fails : (p : Parts) (cuts : List LoadCut) (cost : Option ℕ) (records : List TreeNode) (d : Design) (test : TreeNode → Bool) → (h : IsRatedLeafOf p cuts cost records d) → list_any test records ≡ false → test (Leaf h.leaf.evidence) ≡ false
rated_leaf-fails p cuts cost records d test h none = rated_leaf-All p cuts cost records d (λ leaf. test (Leaf leaf.evidence) ≡ false) h (leaves-fail test (whole p ∷ []) records none)

optimal_claim : (p : Parts) (cuts : List LoadCut) (design : Option (ℕ × Design)) (records : List TreeNode) → AreCuts p cuts → IsRatedTree p cuts (option_map (λ x. x.0) design) records
    → IfSome design (λ x. IsStatedDesign p x.0 x.1) → IsSome design → list_any is_open records ≡ false → IsSomeAnd design (λ x. IsOptimal p x.1)
optimal_claim p cuts None records are valid stated some shut = absurd (let bad : false ≡ true = some in cc)
optimal_claim p cuts (Some x) records are valid stated some shut = record {
  design = stated.good.design;
  feasible = stated.good.feasible;
  least = λ d design feasible.
      (let h = rated_leaf_of p cuts (Some x.0) records d valid design feasible in
      let at_least = rated_leaf-closed p cuts (Some x.0) h.leaf.region h.leaf.evidence d are (x.1, stated.cost_is) h.evidence (rated_leaf-fails p cuts (Some x.0) records d is_open h shut) h.feasible in
      let is = stated.cost_is in
      omega arith);
}

infeasible_claim : (p : Parts) (cuts : List LoadCut) (design : Option (ℕ × Design)) (records : List TreeNode) → AreCuts p cuts → IsRatedTree p cuts (option_map (λ x. x.0) design) records → design ≡ None → list_any is_open records ≡ false → HasNoDesign p
infeasible_claim p cuts (Some x) records are valid none shut d design feasible = absurd (let bad : Some x ≡ None = none in cc)
infeasible_claim p cuts None records are valid none shut d design feasible =
    let h = rated_leaf_of p cuts None records d valid design feasible in
    rated_leaf-closed p cuts None h.leaf.region h.leaf.evidence d are tt h.evidence (rated_leaf-fails p cuts None records d is_open h shut) h.feasible

-- a candidate at most the cost of a feasible design is not absent
candidate-not_absent : (p : Parts) (plan : Plan) (d : Design) → AreCuts p plan.cuts → IsCostOfSome p (stated_cost plan) → IsRatedTree p plan.cuts (stated_cost plan) plan.tree → IsDesign p d → IsFeasible p d → ((candidate : ℤ) → IsCandidate p plan candidate → candidate ≤ℤ pos (cost_of p d) → ⊥) → ⊥
candidate-not_absent p plan d are stated valid design feasible none =
    let h = rated_leaf_of p plan.cuts (stated_cost plan) plan.tree d valid design feasible in
    by_evidence h.leaf.evidence h refl
  where
    at_cost : (cost : Option ℕ) → stated_cost plan ≡ cost → IsSomeAnd cost (λ c. c ≤ cost_of p d) → ⊥
    at_cost None is closed = closed
    at_cost (Some c) is closed =
        none (pos c) (inl (subst (λ (cost : Option ℕ). IsSomeAnd cost (λ x. pos x ≡ pos c)) (sym is) refl)) (omega (arith, ints))

    when_closed : (h : IsRatedLeafOf p plan.cuts (stated_cost plan) plan.tree d) → is_open (Leaf h.leaf.evidence) ≡ false → ⊥
    when_closed h shut = at_cost (stated_cost plan) refl (rated_leaf-closed p plan.cuts (stated_cost plan) h.leaf.region h.leaf.evidence d are stated h.evidence shut h.feasible)

    by_evidence : (evidence : Evidence) → (h : IsRatedLeafOf p plan.cuts (stated_cost plan) plan.tree d) → h.leaf.evidence ≡ evidence → ⊥
    by_evidence (Open numbers) h is =
        let ranges = rated_leaf-All p plan.cuts (stated_cost plan) plan.tree d (λ leaf. AreRanges p leaf.region.ranges) h (rated_leaves-ranges p plan.cuts (stated_cost plan) plan.tree valid) in
        rated_bound-not_absent p plan.cuts h.leaf.region numbers (rates_in p numbers) are ranges
        (λ k below. (path_at d k, permitted_path p h.leaf.region.forbidden d h.feasible.design h.feasible.lies.paths k below))
        (λ bound is_bound. none bound (inr (h.place, h.leaf, h.within, h.same, subst (λ (evidence : Evidence). IsOpenBound p plan.cuts h.leaf.region evidence bound) (sym is) is_bound))
        (rated_bound-le-cost p plan.cuts h.leaf.region numbers (rates_in p numbers) bound d are is_bound design feasible h.feasible.lies))
    by_evidence (Bound numbers) h is = when_closed h (ap (λ (evidence : Evidence). is_open (Leaf evidence)) is)
    by_evidence Routed h is = when_closed h (ap (λ (evidence : Evidence). is_open (Leaf evidence)) is)
    by_evidence (Overfull link) h is = when_closed h (ap (λ (evidence : Evidence). is_open (Leaf evidence)) is)
    by_evidence (Cut id reached) h is = when_closed h (ap (λ (evidence : Evidence). is_open (Leaf evidence)) is)
    by_evidence (Far id) h is = when_closed h (ap (λ (evidence : Evidence). is_open (Leaf evidence)) is)
    by_evidence (Crowd prices) h is = when_closed h (ap (λ (evidence : Evidence). is_open (Leaf evidence)) is)

undecided_claim : (p : Parts) (plan : Plan) → AreCuts p plan.cuts → IsCostOfSome p (stated_cost plan) → IsRatedTree p plan.cuts (stated_cost plan) plan.tree → (bound : Option ℤ)
    → MatchOption bound ((candidate : ℤ) → IsCandidate p plan candidate → ⊥) (λ candidate. IsLeastCandidate p plan candidate) → MatchOption bound (HasNoDesign p) (λ candidate. IsUndercutByNone p candidate)
undecided_claim p plan are stated valid None none = λ d design feasible. candidate-not_absent p plan d are stated valid design feasible (λ candidate is_candidate le. none candidate is_candidate)
undecided_claim p plan are stated valid (Some bound) least = λ d design feasible.
    by_lt_z (pos (cost_of p d)) bound
    (λ above. absurd (candidate-not_absent p plan d are stated valid design feasible (λ candidate is_candidate le. contradicts candidate (cost_of p d) above (least.least candidate is_candidate) le)))
    (λ le. le)
  where
    contradicts : (candidate : ℤ) (cost : ℕ) → pos cost <ℤ bound → bound ≤ℤ candidate → candidate ≤ℤ pos cost → ⊥
    contradicts candidate cost above le below = omega (arith, ints)

-- what a valid plan claims is so
pub valid_plan-claim : (p : Parts) (plan : Plan) → IsValidPlan p plan → HasItsClaim p plan
valid_plan-claim p plan valid = by_status plan.status valid.status
  where
    by_status : (status : PlanStatus) → HasStatus p plan status → ClaimHolds p plan status
    by_status Optimal is = optimal_claim p plan.cuts plan.design plan.tree valid.cuts.are_cuts valid.tree valid.design is.design is.closed
    by_status Infeasible is = infeasible_claim p plan.cuts plan.design plan.tree valid.cuts.are_cuts valid.tree (none_of plan.design is.no_design) is.closed
    by_status Undecided is = undecided_claim p plan valid.cuts.are_cuts (stated-cost p plan.design valid.design) valid.tree plan.bound is.bound
