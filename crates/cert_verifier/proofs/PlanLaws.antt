-- A plan breaks no rule exactly where it is valid, and has at most one first broken rule.
use Rattle.std.proofs.Common.{◌≡◌, ℕ, inl, inr, Bool, true, false, ◌||◌, ◌&&◌, List, [], ◌∷◌, length, Option, Some, None, refl, sym, ap, subst, ◌∙◌}
use Rattle.std.specs.Prelude.{IfSome, IfNone, ℤ, ◌≤ℤ◌}
use Rattle.std.specs.Option.{option_map}
use Rattle.std.specs.List.{list_any}
use Rattle.std.proofs.Common.{arith}
use Rattle.std.proofs.lemmas.Int.{ints}
use Rattle.plan_base.specs.declared.parts.Parts.{Parts}
use Rattle.plan_base.proofs.Bools.{or-false_both}
use Rattle.plan_base.specs.declared.path.Design.{Design}
use Rattle.plan_base.specs.DesignFaults.{design_fault}
use Rattle.plan_base.proofs.DesignLaws.{IsGoodDesign-design_fault, design_fault-IsGoodDesign}
use Rattle.proof_tree.specs.declared.tree.TreeNode.{TreeNode}
use Rattle.proof_tree.specs.declared.plan.PlanStatus.{PlanStatus}
use Rattle.proof_tree.specs.declared.plan.PlanStatus.TheVariants.{Optimal, Infeasible, Undecided}
use Rattle.proof_tree.specs.declared.plan.Plan.{Plan}
use Rattle.proof_tree.specs.Regions.{whole}
use Rattle.proof_tree.specs.Plans.{is_open, needs_cost, IsStatedDesign, HasStatus, IsValidPlan}
use Rattle.proof_tree.specs.Spellings.{IsSpellable, FitsStatus}
use Rattle.cert_verifier.specs.declared.rejected.Rejected.{Rejected}
use Rattle.cert_verifier.specs.declared.rejected.Rejected.TheVariants.{Design as WrongDesign, Bound as WrongBound}
use Rattle.cert_verifier.specs.Kinds.{asks_closed, asks_without_cost, is_none}
use Rattle.cert_verifier.specs.PlanRules.{DesignFinds, HasItsOpen, KeepsBudget, IsLeastOfAll, BoundFinds, PlanFinds}
use Rattle.cert_verifier.specs.Rules.{unless}
use Rattle.cert_verifier.proofs.FirstRules.{unless-none}
use Rattle.cert_verifier.proofs.RuleLaws.{then_by-none, FindsOne, unless-one, then_by-one}
use Rattle.cert_verifier.proofs.CutRules.{cuts_found_none, cuts_find_none, cuts_find_one}
use Rattle.cert_verifier.proofs.TreeLaws.{records_found_none, records_find_none, records_find_one}

-- leaves of a wrong kind: open ones where none may be, and such as need a cost where there is none
abbrev wrong : Bool → Bool → TreeNode → Bool
wrong closed without node = (closed && is_open node) || (without && needs_cost node)

none-wrong : (closed without : Bool) (nodes : List TreeNode) → (closed ≡ true → list_any is_open nodes ≡ false) → (without ≡ true → list_any needs_cost nodes ≡ false) → list_any (wrong closed without) nodes ≡ false
none-wrong closed without [] open' needs = refl
none-wrong closed without (node ∷ nodes) open' needs =
    ap (λ b. b || list_any (wrong closed without) nodes) (here closed without (λ is. (or-false_both _ _ (open' is)).0) (λ is. (or-false_both _ _ (needs is)).0))
    ∙ none-wrong closed without nodes (λ is. (or-false_both _ _ (open' is)).1) (λ is. (or-false_both _ _ (needs is)).1)
  where
    here : (c w : Bool) → (c ≡ true → is_open node ≡ false) → (w ≡ true → needs_cost node ≡ false) → wrong c w node ≡ false
    here true true a b = ap (λ x. x || needs_cost node) (a refl) ∙ b refl
    here true false a b = ap (λ x. x || false) (a refl)
    here false true a b = b refl
    here false false a b = refl

wrong-open : (without : Bool) (nodes : List TreeNode) → list_any (wrong true without) nodes ≡ false → list_any is_open nodes ≡ false
wrong-open without [] h = refl
wrong-open without (node ∷ nodes) h =
    let both = or-false_both _ _ h in
    ap (λ b. b || list_any is_open nodes) (or-false_both _ _ both.0).0 ∙ wrong-open without nodes both.1

wrong-needs : (closed : Bool) (nodes : List TreeNode) → list_any (wrong closed true) nodes ≡ false → list_any needs_cost nodes ≡ false
wrong-needs closed [] h = refl
wrong-needs closed (node ∷ nodes) h =
    let both = or-false_both _ _ h in
    ap (λ b. b || list_any needs_cost nodes) (or-false_both _ _ both.0).1 ∙ wrong-needs closed nodes both.1

-- the design
pub stated_found_none : (p : Parts) (design : Option (ℕ × Design)) → DesignFinds p design None → IfSome design (λ design. IsStatedDesign p design.0 design.1)
stated_found_none p None h = tt
stated_found_none p (Some (cost, d)) h =
    let both = then_by-none h in
    record { good = IsGoodDesign-design_fault p d (unmapped (design_fault p d) WrongDesign both.0); cost_is = unless-none _ _ both.1 }
  where
    unmapped : {A : Type 0} (o : Option A) (f : A → Rejected) → None ≡ option_map f o → o ≡ None
    unmapped None f h = refl
    unmapped (Some x) f h = absurd (let bad : None ≡ Some (f x) = h in cc)

stated_finds_none : (p : Parts) (design : Option (ℕ × Design)) → IfSome design (λ design. IsStatedDesign p design.0 design.1) → DesignFinds p design None
stated_finds_none p None h = refl
stated_finds_none p (Some (cost, d)) h = inr (sym (ap (option_map WrongDesign) (design_fault-IsGoodDesign p d h.good)), inl (h.cost_is, refl))

stated_finds_one : (p : Parts) (design : Option (ℕ × Design)) → FindsOne (DesignFinds p design)
stated_finds_one p None a b x y = x ∙ sym y
stated_finds_one p (Some (cost, d)) a b x y = then_by-one (λ first. first ≡ option_map WrongDesign (design_fault p d)) _ (λ a b x y. x ∙ sym y) (unless-one _ _) a b x y

-- the least of all: at most one
least_of_all-one : (p : Parts) (plan : Plan) (a b : Option ℤ) → IsLeastOfAll p plan a → IsLeastOfAll p plan b → a ≡ b
least_of_all-one p plan None None x y = refl
least_of_all-one p plan None (Some b) x y = absurd (x b y.is_candidate)
least_of_all-one p plan (Some a) None x y = absurd (y a x.is_candidate)
least_of_all-one p plan (Some a) (Some b) x y =
    let low : a ≤ℤ b = x.least b y.is_candidate in
    let high : b ≤ℤ a = y.least a x.is_candidate in
    ap (λ (z : ℤ). Some z) (let same : a ≡ b = omega (arith, ints) in same)

bound_finds_one : (p : Parts) (plan : Plan) (status : PlanStatus) → FindsOne (BoundFinds p plan status)
bound_finds_one p plan Optimal a b x y = x ∙ sym y
bound_finds_one p plan Infeasible a b x y = x ∙ sym y
bound_finds_one p plan Undecided a b x y =
    let same = least_of_all-one p plan x.0 y.0 x.1 y.1 in
    unless-one _ _ a b (subst (λ least. unless (plan.bound ≡ least) (WrongBound plan.bound least) a) same x.2) y.2

-- the status
status_found_none : (p : Parts) (plan : Plan) (status : PlanStatus) → FitsStatus status plan.design plan.bound
    → list_any (wrong (asks_closed status) (asks_without_cost status plan.design)) plan.tree ≡ false
    → HasItsOpen status plan.tree → KeepsBudget status plan.examined plan.budget → BoundFinds p plan status None → HasStatus p plan status
status_found_none p plan Optimal fits kinds some keeps bound = record { design = fits.0; closed = wrong-open false plan.tree kinds; within_budget = keeps }
status_found_none p plan Infeasible fits kinds some keeps bound = record { no_design = fits.0; closed = wrong-open true plan.tree kinds; without_cost = wrong-needs true plan.tree kinds; within_budget = keeps }
status_found_none p plan Undecided fits kinds some keeps bound = record {
  some_open = some;
  spent = keeps;
  without_cost = cases plan.design kinds;
  bound = subst (λ least. IsLeastOfAll p plan least) (sym (unless-none _ _ bound.2)) bound.1;
}
  where
    cases : (design : Option (ℕ × Design)) → list_any (wrong false (is_none design)) plan.tree ≡ false → IfNone design (list_any needs_cost plan.tree ≡ false)
    cases None h = wrong-needs false plan.tree h
    cases (Some d) h = tt

status-kinds : (p : Parts) (plan : Plan) (status : PlanStatus) → HasStatus p plan status → list_any (wrong (asks_closed status) (asks_without_cost status plan.design)) plan.tree ≡ false
status-kinds p plan Optimal h = none-wrong true false plan.tree (λ is. h.closed) (λ is. absurd (let bad : false ≡ true = is in cc))
status-kinds p plan Infeasible h = none-wrong true true plan.tree (λ is. h.closed) (λ is. h.without_cost)
status-kinds p plan Undecided h = none-wrong false (is_none plan.design) plan.tree (λ is. absurd (let bad : false ≡ true = is in cc)) (cases plan.design h.without_cost)
  where
    cases : (design : Option (ℕ × Design)) → IfNone design (list_any needs_cost plan.tree ≡ false) → is_none design ≡ true → list_any needs_cost plan.tree ≡ false
    cases None h is = h
    cases (Some d) h is = absurd (let bad : false ≡ true = is in cc)

status-open : (p : Parts) (plan : Plan) (status : PlanStatus) → HasStatus p plan status → HasItsOpen status plan.tree
status-open p plan Optimal h = tt
status-open p plan Infeasible h = tt
status-open p plan Undecided h = h.some_open

status-budget : (p : Parts) (plan : Plan) (status : PlanStatus) → HasStatus p plan status → KeepsBudget status plan.examined plan.budget
status-budget p plan Optimal h = h.within_budget
status-budget p plan Infeasible h = h.within_budget
status-budget p plan Undecided h = h.spent

status-bound : (p : Parts) (plan : Plan) (status : PlanStatus) → HasStatus p plan status → BoundFinds p plan status None
status-bound p plan Optimal h = refl
status-bound p plan Infeasible h = refl
status-bound p plan Undecided h = (plan.bound, h.bound, inl (refl, refl))

-- a plan that a text can spell and that breaks no rule is valid
pub none_is_valid : (p : Parts) (plan : Plan) → IsSpellable plan → PlanFinds p plan None → IsValidPlan p plan
unfolding PlanFinds
none_is_valid p plan spelled h =
    let a = then_by-none h in
    let b = then_by-none a.1 in
    let k = then_by-none b.1 in
    let c = then_by-none k.1 in
    let d = then_by-none c.1 in
    let e = then_by-none d.0 in
    let f = then_by-none e.1 in
    let tree = records_found_none p plan plan.tree (whole p ∷ []) 0 spelled.whole c.0 in
    record {
      sizes = unless-none _ _ a.0;
      examined = unless-none _ _ f.0;
      cuts = cuts_found_none p plan.cuts spelled.cuts.few k.0;
      design = stated_found_none p plan.design b.0;
      tree = tree.valid;
      status = status_found_none p plan plan.status spelled.status tree.kinds (unless-none _ _ e.0) (unless-none _ _ f.1) d.1;
    }

-- a valid plan breaks no rule
pub valid_is_none : (p : Parts) (plan : Plan) → IsValidPlan p plan → PlanFinds p plan None
unfolding PlanFinds
valid_is_none p plan h =
    inr (
      inl (h.sizes, refl),
      inr (
        stated_finds_none p plan.design h.design,
        inr (
          cuts_find_none p plan.cuts h.cuts,
          inr (
            records_find_none p plan plan.tree (whole p ∷ []) 0 h.tree (status-kinds p plan plan.status h.status),
            inr (
              inr (inl (status-open p plan plan.status h.status, refl), inr (inl (h.examined, refl), inl (status-budget p plan plan.status h.status, refl))),
              status-bound p plan plan.status h.status,
            ),
          ),
        ),
      ),
    )

-- a plan has at most one first broken rule
pub one_found : (p : Parts) (plan : Plan) (a b : Option Rejected) → PlanFinds p plan a → PlanFinds p plan b → a ≡ b
unfolding PlanFinds
one_found p plan =
    then_by-one _ _ (unless-one _ _)
    (then_by-one _ _ (stated_finds_one p plan.design)
    (then_by-one _ _ (cuts_find_one p plan.cuts (length plan.cuts))
    (then_by-one _ _ (records_find_one p plan plan.tree (whole p ∷ []) 0)
    (then_by-one _ _ (then_by-one _ _ (unless-one _ _) (then_by-one _ _ (unless-one _ _) (unless-one _ _)))
    (bound_finds_one p plan plan.status)))))
