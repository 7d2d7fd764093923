-- What an examination of the only paths shows.
use Rattle.std.proofs.Common.{[], ◌≡◌, ℕ, ◌+◌, ◌*◌, ◌/◌, ◌<◌, ◌⊎◌, inl, inr, Bool, true, false, List, length, Option, Some, None, slice_index_or, if◌then◌else◌, refl, sym, ap, subst, ◌∙◌, arith}
use Rattle.std.specs.Prelude.{Ok, Err, Result}
use Rattle.plan_base.specs.declared.ids.ArcId.{ArcId}
use Rattle.plan_base.specs.declared.ids.LinkId.{LinkId}
use Rattle.plan_base.specs.declared.parts.Parts.{Parts}
use Rattle.plan_base.specs.declared.path.Design.{Design}
use Rattle.plan_base.specs.declared.design_fault.DesignFault.{DesignFault}
use Rattle.plan_base.specs.Arcs.{link_at}
use Rattle.plan_base.specs.Places.{is_two_way, places, link_of_place}
use Rattle.plan_base.specs.Designs.{counts_at, load_from, load_at, need, module_cost_with, link_cost, cost_of, IsGoodDesign}
use Rattle.plan_base.proofs.DesignLaws.{design_fault-IsGoodDesign}
use Rattle.plan_base.proofs.PlaceSums.{link_of_place-within}
use Rattle.link_steps.specs.declared.range.LoadRange.{LoadRange}
use Rattle.link_steps.specs.Ranges.{no_range, range_at, IsIn}
use Rattle.link_steps.specs.Costs.{AreLeastCounts}
use Rattle.arc_restrict.specs.Restrictions.{none_forbidden, IsOnlyPath}
use Rattle.second_path.specs.Others.{AreOnlyPaths as AreOnlyOnes}
use Rattle.proof_tree.specs.Evidence.{AreOnlyPaths, ClosedByOverfull}
use Rattle.proof_tree.specs.Regions.{Region, AreInRange}
use Rattle.proof_tree.proofs.Farness.{near-keeps}
use Rattle.proof_tree.proofs.RangeLaws.{loads-in_range}
use Rattle.completions.specs.Completions.{with_paths, ArePaths, IsCompletion, CarryLoads, HasOverfull, IsFirstOverfull, HasOutside, AreInside}
use Rattle.search_machine.specs.declared.answers.Better.{Better}
use Rattle.search_machine.specs.declared.answers.Better.TheVariants as better
use Rattle.search_machine.specs.declared.tree.Incumbent.{Incumbent}
use Rattle.search_machine.specs.State.{State}
use Rattle.search_machine.specs.Readiness.{NoneFar}
use Rattle.search_machine.specs.Examining.{cheaper_of, IsRouted}
use Rattle.search_machine.specs.Bettering.{is_cheaper, BetterStep}

-- a place's load is in its range where those of its link are
in_range-place : (p : Parts) (ranges : List LoadRange) (d : Design) (q : ℕ) → AreInRange p ranges d (link_of_place p q) → IsIn (range_at ranges q) (load_at p d q)
in_range-place p ranges d q h = by_cases (is_two_way p.orient) h.there h.back
  where
    halves : (n : ℕ) → (2 * (n / 2) ≡ n) ⊎ (2 * (n / 2) + 1 ≡ n)
    halves n = grind arith

    by_cases : (b : Bool) → IsIn (range_at ranges (if b then 2 * (if b then q / 2 else q) else (if b then q / 2 else q))) (load_at p d (if b then 2 * (if b then q / 2 else q) else (if b then q / 2 else q)))
        → IsIn (if b then range_at ranges (2 * (if b then q / 2 else q) + 1) else no_range) (if b then load_at p d (2 * (if b then q / 2 else q) + 1) else 0) → IsIn (range_at ranges q) (load_at p d q)
    by_cases false there back = there
    by_cases true there back = elim (halves q) [
      | inl even ↦ subst (λ (n : ℕ). IsIn (range_at ranges n) (load_at p d n)) even there
      | inr odd ↦ subst (λ (n : ℕ). IsIn (range_at ranges n) (load_at p d n)) odd back
    ]

-- the loads of a link are in their ranges where those of all places are
pub inside-in_range : (p : Parts) (ranges : List LoadRange) (paths : List (List ArcId)) (d : Design) (e : ℕ) → e < length p.links → d.paths ≡ paths → AreInside p ranges paths (places p) → AreInRange p ranges d e
unfolding load_from
inside-in_range p ranges paths d e within same inside = loads-in_range p d (record { forbidden = none_forbidden; ranges = ranges }) e within (record {
  paths = λ k below i dflt here. refl;
  loads = λ q below. subst (IsIn (range_at ranges q)) (sym (ap (λ (xs : List (List ArcId)). load_at p (with_paths xs) q) same)) (inside q below);
})

module _ (p : Parts) (g : Region) (paths : List (List ArcId)) (only : AreOnlyOnes p g.forbidden paths) where
  -- the only paths in a region are a simple path for each demand
  pub are-paths : ArePaths p paths
  are-paths = record { count = only.count; simple = λ k within. (only.only k within).permitted.simple }

  only-of : (d : Design) → d.paths ≡ paths → AreOnlyPaths p g.forbidden d
  only-of d same k within = subst (λ (xs : List (List ArcId)). IsOnlyPath p g.forbidden k (slice_index_or xs k [])) (sym same) (only.only k within)

  -- the first link that the only paths overfill is evidence that closes the region
  pub overfull-closed : (link : LinkId) → IsFirstOverfull p paths link.0 → ClosedByOverfull p g link
  overfull-closed link first = record { routing = with_paths paths; only = only-of (with_paths paths) refl; is_link = first.within; overfull = inl first.overfull }

  -- where a load is outside its range, one of the link's loads is
  pub outside-closed : (link : LinkId) → HasOutside p g.ranges paths link.0 → ClosedByOverfull p g link
  outside-closed link out = record {
    routing = with_paths paths;
    only = only-of (with_paths paths) refl;
    is_link = subst (λ (e : ℕ). e < length p.links) (sym out.is_link) (link_of_place-within p out.place out.within);
    overfull = inr (λ in_range. out.outside (in_range-place p g.ranges (with_paths paths) out.place (subst (AreInRange p g.ranges (with_paths paths)) out.is_link in_range)));
  }

  -- where no demand is far, the completion of the only paths with least counts is a design that routes them at least cost
  pub completion-routed : NoneFar p g.forbidden → (cost : ℕ) (d : Design) → IsCompletion p paths cost d
      → ((e : ℕ) → e < length p.links → AreLeastCounts p e (need p d e) (counts_at d e)) → IsRouted p g.forbidden cost d
  completion-routed near cost d done counts = record {
    only = only-of d done.same_paths;
    good = record {
      design = done.carried.design;
      feasible = record { carried = done.carried.carried; limits = near-keeps p g.forbidden d (only-of d done.same_paths) near };
      in_shape = done.carried.in_shape;
    };
    is_cost = sym done.is_cost;
    step_costs = link_cost p d;
    are_costs = λ e within. record {
      module_cost = module_cost_with (link_at p e) (counts_at d e);
      is_least = record { counts = counts_at d e; carries = (counts e within).carries; attained = refl; least = (counts e within).least };
      is_sum = refl;
    };
    is_least = done.is_cost;
  }

-- where each link carries what it needs, none is overfull
pub carry-overfull : (p : Parts) (paths : List (List ArcId)) → CarryLoads p paths (length p.links) → HasOverfull p paths → ⊥
carry-overfull p paths carry over = let can = carry over.link over.within in over.overfull can.0 can.1

cheaper-taken : (held : Option Incumbent) (cost : ℕ) (design : Design) → is_cheaper held cost ≡ true → cheaper_of held cost design ≡ record { cost = cost; design = design }
cheaper-taken None cost design h = refl
cheaper-taken (Some held) cost design h = rw h refl

not_cheaper-held : (held : Option Incumbent) (cost : ℕ) (design : Design) → is_cheaper held cost ≡ false → Some (cheaper_of held cost design) ≡ held
not_cheaper-held None cost design h = absurd (let bad : true ≡ false = h in cc)
not_cheaper-held (Some held) cost design h = rw h refl

-- the state that holds the cheaper of the held design and of this one
abbrev pub with_cheaper : State → ℕ → Design → State
with_cheaper s cost design = record s { incumbent = Some (cheaper_of s.incumbent cost design) }

-- after a good design is handed in, the cheaper one is held
pub better-holds : (s t : State) (cost : ℕ) (design : Design) (answer : Result Better DesignFault) → BetterStep s design answer t → IsGoodDesign s.problem design → cost_of s.problem design ≡ cost
    → t ≡ with_cheaper s cost design
better-holds s t cost design (Ok (better.Taken c)) step good is =
    let same : c ≡ cost = sym step.is_cost ∙ is in
    let cheaper : is_cheaper s.incumbent cost ≡ true = subst (λ (n : ℕ). is_cheaper s.incumbent n ≡ true) same step.cheaper in
    let make : Incumbent → State = λ held. record s { incumbent = Some held } in
    step.becomes ∙ (ap (λ (n : ℕ). make (record { cost = n; design = design })) same ∙ ap make (sym (cheaper-taken s.incumbent cost design cheaper)))
better-holds s t cost design (Ok (better.NotLess c held)) step good is =
    let same : c ≡ cost = sym step.is_cost ∙ is in
    let dearer : is_cheaper s.incumbent cost ≡ false = subst (λ (n : ℕ). is_cheaper s.incumbent n ≡ false) same step.not_cheaper in
    let make : Option Incumbent → State = λ held. record s { incumbent = held } in
    step.unchanged ∙ ap make (sym (not_cheaper-held s.incumbent cost design dearer))
better-holds s t cost design (Err fault) step good is =
    let none = design_fault-IsGoodDesign s.problem design good in
    let bad : ◌≡◌ {A = Option DesignFault} None (Some fault) = sym none ∙ step.0 in
    absurd (cc)
