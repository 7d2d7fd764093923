-- The plan of a pool that is done is valid.
use Rattle.std.proofs.Common.{◌≡◌, ℕ, ◌+◌, ◌^◌, ◌<◌, ◌≤◌, Bool, true, false, not, ◌||◌, ◌==◌, List, [], ◌∷◌, length, Option, Some, None, refl, sym, ap, subst, ◌∙◌, arith, sum_by}
use Rattle.std.specs.Prelude.{cond, nat_lt, IsSome, IsNone, IfSome, IfNone, option_map}
use Rattle.std.specs.List.{list_any}
use Rattle.std.proofs.lemmas.Bool.{eqb-true, ltb-true, ltb-false}
use Rattle.std.proofs.lemmas.Option.{slice_get_within}
use Rattle.plan_base.specs.declared.parts.Parts.{Parts}
use Rattle.plan_base.specs.declared.path.Design.{Design}
use Rattle.plan_base.specs.Places.{is_two_way}
use Rattle.proof_tree.specs.declared.tree.Evidence.TheVariants as evidence
use Rattle.proof_tree.specs.declared.tree.TreeNode.{TreeNode}
use Rattle.proof_tree.specs.declared.tree.TreeNode.TheVariants.{Split, Loads, Leaf}
use Rattle.proof_tree.specs.declared.plan.Plan.{Plan}
use Rattle.proof_tree.specs.declared.plan.PlanStatus.TheVariants.{Undecided}
use Rattle.proof_tree.specs.Shapes.{are_trees}
use Rattle.proof_tree.specs.Regions.{Region, whole, with_arcs, up_to, above}
use Rattle.proof_tree.specs.declared.cuts.Cut.{Cut}
use Rattle.proof_tree.specs.RatedTrees.{AreRatedTrees, IsRatedTree}
use Rattle.proof_tree.specs.Cuts.{IsCutList}
use Rattle.proof_tree.specs.Plans.{stated_cost, is_open, needs_cost, IsStatedDesign, HasStatus, IsValidPlan}
use Rattle.branch_tree.specs.Records.{split_record}
use Rattle.branch_tree.specs.declared.node.Divider.TheVariants as divider
use Rattle.branch_tree.specs.declared.node.Fate.{Fate}
use Rattle.search_machine.specs.declared.tree.Incumbent.{Incumbent}
use Rattle.branch_tree.specs.declared.node.Fate.TheVariants.{Undone, ClosedBy, DividedBy}
use Rattle.search_machine.specs.State.{Divider, Node, State, region_of, cutoff_of, examined_by, examined_in, kept_prices}
use Rattle.search_machine.specs.Machine.{IsReachable}
use Rattle.search_machine.specs.Nodes.{HasSoundFate, IsSoundFate}
use Rattle.search_machine.specs.Soundness.{IsSound}
use Rattle.search_machine.specs.PlanOf.{tree_of, open_by, open_count, is_done, status_by, status_of, stated_design, HasBoundOf, IsPlanOf, PartsPaths}
use Rattle.search_nodes.specs.Records.{record_by}
use Rattle.plan_of_search.specs.PlanParts.{IsStatedBound}
use Rattle.search_machine.proofs.Lists.{All-at}
use Rattle.search_machine.proofs.Runs.{IsReachable-sound}
use Rattle.search_machine.specs.declared.limits.TheConstants.{MAX_BUDGET}
use Rattle.search_machine.proofs.Enough.{all_nodes}
use Rattle.search_machine.proofs.Small.{IsSound-nodes}
use Rattle.search_machine.proofs.PlanTrees.{tree_of-valid, tree_of-parts}
use Rattle.plan_of_search.proofs.PlanFits.{valid-whole}
use Rattle.plan_of_search.proofs.PlanBounds.{cost-stated, stated_bound-of}
use Rattle.plan_of_search.proofs.PlanRecords.{records_sum, none_counted, some_counted}

-- What a tree is made from

-- the records of a sound state's tree are one whole tree
pub tree-whole : (s : State) → IsSound s → are_trees 1 (tree_of s) ≡ true
tree-whole s h = valid-whole s.problem s.cuts (cutoff_of s) (whole s.problem ∷ []) (tree_of s) (tree_of-valid s h)

-- a sound state has a node
pub tree-some : (s : State) → IsSound s → 0 < length s.nodes
tree-some s h = slice_get_within s.nodes 0 h.family.root h.family.is_root

-- a sound state whose budget is not above the greatest one has fewer than 2^32 nodes
pub tree-few : (s : State) → IsSound s → s.budget ≤ MAX_BUDGET → length s.nodes < 2 ^ 32
tree-few s h small = let most = IsSound-nodes s h in omega arith

-- Counts of a tree

-- the record of a split is no open leaf
split-closed : (by : Divider) → is_open (split_record by) ≡ false
split-closed (divider.Arcs d) = refl
split-closed (divider.Load d) = refl

-- the records that are not open are those of the examined nodes
tree-examined : (s : State) → IsReachable s → sum_by (λ record_. cond (not (is_open record_)) 1 0) (tree_of s) ≡ s.examined
tree-examined s h =
    records_sum s (λ record_. cond (not (is_open record_)) 1 0) examined_in h
    (λ n node is. here node node.fate (All-at (HasSoundFate s.problem s.cuts (cutoff_of s)) s.nodes n node (IsReachable-sound s h).fates is))
    ∙ sym (IsReachable-sound s h).counts.examined
  where
    here : (node : Node) (fate : Fate) → IsSoundFate s.problem s.cuts (cutoff_of s) (region_of s.problem node) fate → cond (not (is_open (record_by (kept_prices node) fate))) 1 0 ≡ examined_by fate
    here node Undone sound = refl
    here node (ClosedBy found) sound = ap (λ (b : Bool). cond (not b) 1 0) sound.0
    here node (DividedBy d) sound = ap (λ (b : Bool). cond (not b) 1 0) (split-closed d.by)

-- the open records are those of the open leaves
tree-open : (s : State) → IsReachable s → sum_by (λ record_. cond (is_open record_) 1 0) (tree_of s) ≡ open_count s
tree-open s h =
    records_sum s (λ record_. cond (is_open record_) 1 0) (λ node. open_by node.fate) h
    (λ n node is. here node node.fate (All-at (HasSoundFate s.problem s.cuts (cutoff_of s)) s.nodes n node (IsReachable-sound s h).fates is))
  where
    here : (node : Node) (fate : Fate) → IsSoundFate s.problem s.cuts (cutoff_of s) (region_of s.problem node) fate → cond (is_open (record_by (kept_prices node) fate)) 1 0 ≡ open_by fate
    here node Undone sound = refl
    here node (ClosedBy found) sound = ap (λ (b : Bool). cond b 1 0) sound.0
    here node (DividedBy d) sound = ap (λ (b : Bool). cond b 1 0) (split-closed d.by)

-- The status

-- the nodes that are not examined are open leaves
open_count-rest : (s : State) → IsSound s → s.examined + open_count s ≡ length s.nodes
open_count-rest s h = let all = all_nodes s.nodes in let e = h.counts.examined in omega arith

below-true : (a : ℕ) → 0 < a → nat_lt 0 a ≡ true
below-true a some = grind arith

-- where fewer nodes are examined than there are, the plan's status is undecided
pub status-undecided : (s : State) → IsSound s → s.examined < length s.nodes → Undecided ≡ status_of s
status-undecided s h less =
    let rest = open_count-rest s h in
    sym (ap (λ (b : Bool). status_by b s.incumbent) (below-true (open_count s) (omega arith)))

-- where all nodes are examined, the plan's status is the one without open leaves
pub status-closed : (s : State) → IsSound s → length s.nodes ≤ s.examined → status_by false s.incumbent ≡ status_of s
status-closed s h all =
    let rest = open_count-rest s h in
    let none : open_count s ≡ 0 = omega arith in
    sym (ap (λ (n : ℕ). status_by (nat_lt 0 n) s.incumbent) none)

-- The plan

-- without a cost no leaf is closed against one
needs_none : (p : Parts) (cuts : List Cut) (gs : List Region) (records : List TreeNode) → AreRatedTrees p cuts None gs records → list_any needs_cost records ≡ false
needs_none p cuts [] [] h = refl
needs_none p cuts [] (record_ ∷ records) h = absurd h
needs_none p cuts (g ∷ gs) [] h = absurd h
needs_none p cuts (g ∷ gs) (Leaf (evidence.Bound prices) ∷ records) h = absurd h.0
needs_none p cuts (g ∷ gs) (Leaf evidence.Routed ∷ records) h = absurd h.0
needs_none p cuts (g ∷ gs) (Leaf (evidence.Overfull link) ∷ records) h = needs_none p cuts gs records h.1
needs_none p cuts (g ∷ gs) (Leaf (evidence.Cut demand reached) ∷ records) h = needs_none p cuts gs records h.1
needs_none p cuts (g ∷ gs) (Leaf (evidence.Far demand) ∷ records) h = needs_none p cuts gs records h.1
needs_none p cuts (g ∷ gs) (Leaf (evidence.Crowd prices) ∷ records) h = needs_none p cuts gs records h.1
needs_none p cuts (g ∷ gs) (Leaf (evidence.Open prices) ∷ records) h = needs_none p cuts gs records h.1
needs_none p cuts (g ∷ gs) (Split k at left right ∷ records) h = needs_none p cuts (with_arcs g k left ∷ with_arcs g k right ∷ gs) records h.1
needs_none p cuts (g ∷ gs) (Loads place load ∷ records) h = needs_none p cuts (up_to g place load ∷ above g place load ∷ gs) records h.1

done_cases : (s : State) → is_done s ≡ true → 0 < open_count s → s.examined ≡ s.budget
done_cases s done some = by (s.examined == s.budget) refl
  where
    by : (b : Bool) → (s.examined == s.budget) ≡ b → s.examined ≡ s.budget
    by true e = eqb-true s.examined s.budget e
    by false e =
        let last : (open_count s == 0) ≡ true = subst (λ (b : Bool). (b || (open_count s == 0)) ≡ true) e done in
        let none = eqb-true (open_count s) 0 last in
        absurd (omega arith)

-- a plan that is put together from a state's parts is that of the state
pub made_plan : (s : State) (plan : Plan) → IsReachable s → plan.nodes ≡ s.problem.nodes → plan.links ≡ length s.problem.links → plan.demands ≡ length s.problem.demands → plan.both ≡ is_two_way s.problem.orient → plan.status ≡ status_of s
    → plan.budget ≡ s.budget → plan.examined ≡ s.examined → plan.design ≡ stated_design s.incumbent → plan.cuts ≡ s.cuts → plan.tree ≡ tree_of s → IsStatedBound s plan.status plan.bound → IsPlanOf s plan
made_plan s plan h nodes links demands both status budget examined design cuts tree bound = record {
  nodes = nodes;
  links = links;
  demands = demands;
  both = both;
  status = status;
  budget = budget;
  examined = examined;
  design = design;
  cuts = cuts;
  tree = tree;
  bound = stated_bound-of s plan h cuts tree design bound;
}

module _ (s : State) (plan : Plan) (h : IsReachable s) (is : IsPlanOf s plan) where
  sound : IsSound s
  sound = IsReachable-sound s h

  cost_is : stated_cost plan ≡ cutoff_of s
  cost_is = ap (λ (design : Option (ℕ × Design)). option_map (λ x. x.0) design) is.design ∙ cost-stated s.incumbent

  valid_tree : IsRatedTree s.problem s.cuts (stated_cost plan) plan.tree
  valid_tree =
      subst (λ (cost : Option ℕ). IsRatedTree s.problem s.cuts cost plan.tree) (sym cost_is)
      (subst (λ (records : List TreeNode). IsRatedTree s.problem s.cuts (cutoff_of s) records) (sym is.tree) (tree_of-valid s sound))

  none_open : open_count s ≡ 0 → list_any is_open plan.tree ≡ false
  none_open none = ap (λ (records : List TreeNode). list_any is_open records) is.tree ∙ none_counted is_open (tree_of s) (tree-open s h ∙ none)

  some_open : 0 < open_count s → list_any is_open plan.tree ≡ true
  some_open some = ap (λ (records : List TreeNode). list_any is_open records) is.tree ∙ some_counted is_open (tree_of s) (let e = tree-open s h in omega arith)

  -- without a design no leaf is closed against a cost
  without_cost : plan.design ≡ None → list_any needs_cost plan.tree ≡ false
  without_cost none =
      let no_cost : stated_cost plan ≡ None = ap (λ (design : Option (ℕ × Design)). option_map (λ x. x.0) design) none in
      needs_none s.problem s.cuts (whole s.problem ∷ []) plan.tree (subst (λ (cost : Option ℕ). IsRatedTree s.problem s.cuts cost plan.tree) no_cost valid_tree)

  within : plan.examined ≤ plan.budget
  within = let a = is.examined in let b = is.budget in let c = sound.counts.within_budget in omega arith

  stated : (design : Option (ℕ × Design)) (held : Option Incumbent) → design ≡ stated_design held → IfSome held (λ x. IsStatedDesign s.problem x.cost x.design) → IfSome design (λ d. IsStatedDesign s.problem d.0 d.1)
  stated design None e good = subst (λ (o : Option (ℕ × Design)). IfSome o (λ d. IsStatedDesign s.problem d.0 d.1)) (sym e) tt
  stated design (Some held) e good = subst (λ (o : Option (ℕ × Design)). IfSome o (λ d. IsStatedDesign s.problem d.0 d.1)) (sym e) good

  has_status : is_done s ≡ true → HasStatus s.problem plan plan.status
  has_status done = subst (HasStatus s.problem plan) (sym is.status) (by (nat_lt 0 (open_count s)) refl s.incumbent refl)
    where
      none_left : nat_lt 0 (open_count s) ≡ false → open_count s ≡ 0
      none_left e = let most = ltb-false 0 (open_count s) e in omega arith

      bound_at : (b : Bool) → nat_lt 0 (open_count s) ≡ b → HasBoundOf s.problem plan (status_by b s.incumbent)
      bound_at b e = subst (HasBoundOf s.problem plan) (is.status ∙ ap (λ (x : Bool). status_by x s.incumbent) e) is.bound

      by_design : (design : Option (ℕ × Design)) → plan.design ≡ design → IfNone design (list_any needs_cost plan.tree ≡ false)
      by_design None e = without_cost e
      by_design (Some x) e = tt

      by : (b : Bool) → nat_lt 0 (open_count s) ≡ b → (held : Option Incumbent) → s.incumbent ≡ held → HasStatus s.problem plan (status_by b held)
      by true e held f =
          let some = ltb-true 0 (open_count s) e in
          record {
            some_open = some_open some;
            spent = is.examined ∙ done_cases s done some ∙ sym is.budget;
            without_cost = by_design plan.design refl;
            bound = bound_at true e;
          }
      by false e (Some held) f = record {
        design = subst (λ (o : Option (ℕ × Design)). IsSome o) (sym (is.design ∙ ap stated_design f)) refl;
        closed = none_open (none_left e);
        within_budget = within;
      }
      by false e None f = record {
        no_design = subst (λ (o : Option (ℕ × Design)). IsNone o) (sym (is.design ∙ ap stated_design f)) refl;
        closed = none_open (none_left e);
        without_cost = without_cost (is.design ∙ ap stated_design f);
        within_budget = within;
      }

  -- the plan of a state that is done is valid
  pub plan_valid : is_done s ≡ true → IsValidPlan s.problem plan
  plan_valid done = record {
    sizes = record { nodes = is.nodes; links = is.links; demands = is.demands; both = is.both };
    examined = is.examined ∙ sym (tree-examined s h) ∙ ap (λ (records : List TreeNode). sum_by (λ record_. cond (not (is_open record_)) 1 0) records) (sym is.tree);
    cuts = subst (IsCutList s.problem) (sym is.cuts) sound.cuts;
    design = stated plan.design s.incumbent is.design sound.incumbent;
    tree = subst (λ (cuts : List Cut). IsRatedTree s.problem cuts (stated_cost plan) plan.tree) (sym is.cuts) valid_tree;
    status = has_status done;
  }

  -- each split in a state's plan parts two paths of its demand, or two steps of its link
  pub plan_parts : PartsPaths s.problem plan.tree
  plan_parts = subst (PartsPaths s.problem) (sym is.tree) (tree_of-parts s sound)
