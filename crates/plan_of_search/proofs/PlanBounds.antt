-- The bound that a plan states is the least of its limits, and at least the opening bound.
use Rattle.std.proofs.Common.{◌≡◌, ℕ, ◌<◌, inl, inr, List, length, Option, Some, None, refl, sym, ap, subst, ◌∙◌, ℤ, pos, ◌≤ℤ◌}
use Rattle.std.specs.Prelude.{IsSomeAnd, IfSome, Any, MatchOption, option_map}
use Rattle.std.proofs.lemmas.Option.{slice_get_within}
use Rattle.plan_base.specs.declared.path.Design.{Design}
use Rattle.proof_tree.specs.declared.tree.Evidence.{Evidence}
use Rattle.proof_tree.specs.declared.tree.Evidence.TheVariants as evidence
use Rattle.proof_tree.specs.declared.tree.TreeNode.{TreeNode}
use Rattle.proof_tree.specs.declared.plan.Plan.{Plan}
use Rattle.proof_tree.specs.declared.plan.PlanStatus.{PlanStatus}
use Rattle.proof_tree.specs.declared.plan.PlanStatus.TheVariants.{Optimal, Infeasible, Undecided}
use Rattle.proof_tree.specs.Regions.{Region}
use Rattle.proof_tree.specs.declared.cuts.Cut.{Cut}
use Rattle.proof_tree.specs.Bounds.{IsOpeningBound}
use Rattle.proof_tree.specs.RatedEvidence.{IsBoundAt}
use Rattle.proof_tree.specs.Trees.{LeafAt, leaves_of}
use Rattle.proof_tree.specs.Plans.{stated_cost, IsStatedDesign, IsOpenBound, IsCandidate, IsLeastCandidate}
use Rattle.search_machine.specs.declared.tree.Incumbent.{Incumbent}
use Rattle.search_machine.specs.State.{State, region_of, cutoff_of, kept_prices}
use Rattle.search_machine.specs.Machine.{IsReachable}
use Rattle.search_machine.specs.PlanOf.{tree_of, stated_design, HasBoundOf, IsPlanOf, HasOpeningBound}
use Rattle.plan_of_search.specs.PlanParts.{IsLeafBound, IsLimitBelow, IsLeastOrNone, IsStatedBound}
use Rattle.search_machine.proofs.Runs.{IsReachable-sound}
use Rattle.plan_of_search.proofs.PlanLeaves.{IsLeafOf, leaf-node, node-leaf}
use Rattle.plan_of_search.proofs.PlanOpening.{kept-above, cost-above}
pub use Rattle.plan_of_search.proofs.PlanFits.{plan_spellable}

-- the cost of the design that a plan states is the cost of the incumbent
pub cost-stated : (held : Option Incumbent) → option_map (λ (design : ℕ × Design). design.0) (stated_design held) ≡ option_map (λ (x : Incumbent). x.cost) held
cost-stated None = refl
cost-stated (Some held) = refl

-- what a plan of the state may state as bound is a limit of the state
module _ (s : State) (h : IsReachable s) (plan : Plan) (cuts : plan.cuts ≡ s.cuts) (tree : plan.tree ≡ tree_of s) (design : plan.design ≡ stated_design s.incumbent) where
  cost-is : stated_cost plan ≡ cutoff_of s
  cost-is = ap (option_map (λ (d : ℕ × Design). d.0)) design ∙ cost-stated s.incumbent

  open-bound : (bound : ℤ) (leaf : LeafAt) → IsLeafOf s (IsReachable-sound s h) leaf → (found : Evidence) → leaf.evidence ≡ found → IsOpenBound s.problem plan.cuts leaf.region found bound
      → (n : ℕ) × (n < length s.nodes) × IsLeafBound s n bound
  open-bound bound leaf of (evidence.Open prices) same is =
      let opens = of.opens prices same in (
        of.number,
        slice_get_within s.nodes of.number of.node of.is_node,
        record {
          node = of.node;
          is_node = of.is_node;
          undone = opens.0;
          is_bound = subst (λ (ps : List ℕ). IsBoundAt s.problem s.cuts (region_of s.problem of.node) ps bound) opens.1
              (subst (λ (g : Region). IsBoundAt s.problem s.cuts g prices bound) of.region_is (subst (λ (cs : List Cut). IsBoundAt s.problem cs leaf.region prices bound) cuts is));
        },
      )
  open-bound bound leaf of (evidence.Bound prices) same is = absurd is
  open-bound bound leaf of evidence.Routed same is = absurd is
  open-bound bound leaf of (evidence.Overfull link) same is = absurd is
  open-bound bound leaf of (evidence.Cut demand reached) same is = absurd is
  open-bound bound leaf of (evidence.Far demand) same is = absurd is
  open-bound bound leaf of (evidence.Crowd prices) same is = absurd is

  -- what the plan may state as bound is the held cost or the bound of an open leaf of the state
  pub candidate-limit : (bound : ℤ) → IsCandidate s.problem plan bound → IsLimitBelow s (length s.nodes) bound
  candidate-limit bound candidate = elim candidate [
    | inl cost ↦ inl (subst (λ (o : Option ℕ). IsSomeAnd o (λ c. pos c ≡ bound)) cost-is cost)
    | inr any ↦
        let there : Any (λ (leaf : LeafAt). IsOpenBound s.problem plan.cuts leaf.region leaf.evidence bound) (leaves_of s.problem (tree_of s)) =
        subst (λ (nodes : List TreeNode). Any (λ (leaf : LeafAt). IsOpenBound s.problem plan.cuts leaf.region leaf.evidence bound) (leaves_of s.problem nodes)) tree any in
        let found = leaf-node s (IsReachable-sound s h) (λ (leaf : LeafAt). IsOpenBound s.problem plan.cuts leaf.region leaf.evidence bound) there in
        inr (open-bound bound found.0 found.1 found.0.evidence refl found.2)
  ]

  limit-candidate : (bound : ℤ) → IsLimitBelow s (length s.nodes) bound → IsCandidate s.problem plan bound
  limit-candidate bound limit = elim limit [
    | inl cost ↦ inl (subst (λ (o : Option ℕ). IsSomeAnd o (λ c. pos c ≡ bound)) (sym cost-is) cost)
    | inr leaf ↦
        let b = leaf.2 in
        inr (subst (λ (nodes : List TreeNode). Any (λ (l : LeafAt). IsOpenBound s.problem plan.cuts l.region l.evidence bound) (leaves_of s.problem nodes)) (sym tree)
        (node-leaf s h (λ (l : LeafAt). IsOpenBound s.problem plan.cuts l.region l.evidence bound) leaf.0 b.node b.is_node b.undone
        (subst (λ (cs : List Cut). IsBoundAt s.problem cs (region_of s.problem b.node) (kept_prices b.node) bound) (sym cuts) b.is_bound)))
  ]

  least-stated : (found : Option ℤ) → IsLeastOrNone s (length s.nodes) found
      → MatchOption found ((bound : ℤ) → IsCandidate s.problem plan bound → ⊥) (λ bound. IsLeastCandidate s.problem plan bound)
  least-stated None none = λ bound candidate. none bound (candidate-limit bound candidate)
  least-stated (Some bound) least =
      record { is_candidate = limit-candidate bound least.is_limit; least = λ other candidate. least.least other (candidate-limit other candidate) }

  by_status : (status : PlanStatus) → IsStatedBound s status plan.bound → HasBoundOf s.problem plan status
  by_status Optimal stated = stated
  by_status Infeasible stated = stated
  by_status Undecided stated = least-stated plan.bound stated

  HasBoundOf-stated : IsStatedBound s plan.status plan.bound → HasBoundOf s.problem plan plan.status
  HasBoundOf-stated stated = by_status plan.status stated

-- a bound that is stated by the state's status and its limits is the one that its plan has to state
pub stated_bound-of : (s : State) (plan : Plan) → IsReachable s → plan.cuts ≡ s.cuts → plan.tree ≡ tree_of s → plan.design ≡ stated_design s.incumbent → IsStatedBound s plan.status plan.bound
    → HasBoundOf s.problem plan plan.status
stated_bound-of s plan h cuts tree design stated = HasBoundOf-stated s h plan cuts tree design stated

-- a limit of the state is at least the opening bound
limit-above : (s : State) → IsReachable s → (opening bound : ℤ) → IsOpeningBound s.problem opening → IsLimitBelow s (length s.nodes) bound → opening ≤ℤ bound
limit-above s h opening bound is_opening limit = elim limit [
  | inl cost ↦ at_cost s.incumbent (IsReachable-sound s h).incumbent cost
  | inr leaf ↦ let b = leaf.2 in kept-above s h opening is_opening leaf.0 b.node bound b.is_node b.is_bound
]
  where
    at_cost : (held : Option Incumbent) → IfSome held (λ x. IsStatedDesign s.problem x.cost x.design) → IsSomeAnd (option_map (λ (x : Incumbent). x.cost) held) (λ c. pos c ≡ bound) → opening ≤ℤ bound
    at_cost None stated is = absurd is
    at_cost (Some held) stated is = subst (λ (b : ℤ). opening ≤ℤ b) is (cost-above s h opening is_opening held.cost held.design stated)

stated-above : (s : State) → IsReachable s → (plan : Plan) → plan.cuts ≡ s.cuts → plan.tree ≡ tree_of s → plan.design ≡ stated_design s.incumbent → (opening bound : ℤ) → IsOpeningBound s.problem opening
    → (status : PlanStatus) → HasBoundOf s.problem plan status → plan.bound ≡ Some bound → opening ≤ℤ bound
stated-above s h plan cuts tree design opening bound is_opening Optimal has is = absurd (let bad : ◌≡◌ {A = Option ℤ} None (Some bound) = sym has ∙ is in cc)
stated-above s h plan cuts tree design opening bound is_opening Infeasible has is = absurd (let bad : ◌≡◌ {A = Option ℤ} None (Some bound) = sym has ∙ is in cc)
stated-above s h plan cuts tree design opening bound is_opening Undecided has is =
    let least : IsLeastCandidate s.problem plan bound =
    subst (λ (o : Option ℤ). MatchOption o ((b : ℤ) → IsCandidate s.problem plan b → ⊥) (λ b. IsLeastCandidate s.problem plan b)) is has in
    limit-above s h opening bound is_opening (candidate-limit s h plan cuts tree design bound least.is_candidate)

-- the bound of a state's plan is at least the bound of the root at the start prices
pub plan_opening : (s : State) (plan : Plan) → IsReachable s → IsPlanOf s plan → HasOpeningBound s.problem plan
plan_opening s plan h is opening bound is_opening stated =
    stated-above s h plan is.cuts is.tree is.design opening bound is_opening plan.status is.bound stated
