-- The plan of a state can be spelled: its sizes, its sides and its evidence fit.
use Rattle.std.proofs.Common.{◌≡◌, ℕ, zero, suc, ◌+◌, ◌/◌, ◌%◌, ◌<◌, ◌≤◌, ◌⊎◌, inl, inr, Bool, true, false, List, [], ◌∷◌, ◌++◌, length, get_or, Option, Some, None, slice_get, All, refl, sym, ap, ap₂, subst, ◌∙◌, arith, sum_by}
use Rattle.std.specs.Prelude.{IfSome, nat_lt}
use Rattle.std.proofs.lemmas.Bool.{ltb-true, eq-eqb, ne_eqb}
use Rattle.std.proofs.lemmas.List.{get_or_default}
use Rattle.std.proofs.lemmas.List.Elements.{All-cons, All-nil, All-append}
use Rattle.std.proofs.lemmas.List.Sums.{sum_by-cons}
use Rattle.plan_base.specs.declared.ids.ArcId.{ArcId}
use Rattle.plan_base.specs.declared.ids.NodeId.{NodeId}
use Rattle.plan_base.specs.declared.ids.DemandId.{DemandId}
use Rattle.plan_base.specs.declared.parts.Parts.{Parts}
use Rattle.plan_base.specs.declared.path.Design.{Design}
use Rattle.plan_base.specs.Facts.{IsInstance}
use Rattle.plan_base.specs.Arcs.{is_back, link_of, link_at, tail_of, demand_at, no_arc, no_link, no_demand}
use Rattle.plan_base.specs.Places.{places}
use Rattle.plan_base.specs.Paths.{arc_at}
use Rattle.plan_base.specs.Designs.{path_at, counts_at}
use Rattle.plan_base.proofs.Bools.{and-first}
use Rattle.plan_base.proofs.PathLaws.{length-IsSimplePath}
use Rattle.arc_restrict.specs.Restrictions.{Forbidden}
use Rattle.proof_tree.specs.declared.limits.TheConstants.{MAX_BUDGET}
use Rattle.proof_tree.specs.declared.cuts.Cut.{Cut as LoadCut}
use Rattle.proof_tree.specs.declared.tree.Evidence.TheVariants as evidence
use Rattle.proof_tree.specs.declared.tree.TreeNode.{TreeNode}
use Rattle.proof_tree.specs.declared.tree.TreeNode.TheVariants.{Split, Loads, Leaf}
use Rattle.proof_tree.specs.declared.plan.Plan.{Plan}
use Rattle.proof_tree.specs.declared.plan.PlanStatus.{PlanStatus}
use Rattle.proof_tree.specs.Shapes.{are_trees}
use Rattle.proof_tree.specs.Cuts.{no_cut, IsCutList}
use Rattle.proof_tree.specs.Splits.{IsSide}
use Rattle.proof_tree.specs.Regions.{Region, whole, with_arcs, up_to, above}
use Rattle.proof_tree.specs.RatedTrees.{AreRatedTrees}
use Rattle.proof_tree.specs.Plans.{IsStatedDesign}
use Rattle.proof_tree.specs.Spellings.{IsAscending, IsWrittenSide, places_in, numbers_in, FitsRecord, FitsCuts, FitsDesign, FitsStatus, IsSpellable}
use Rattle.branch_tree.specs.Records.{split_record}
use Rattle.branch_tree.specs.declared.node.Divider.TheVariants as divider
use Rattle.branch_tree.specs.declared.node.Fate.{Fate}
use Rattle.search_machine.specs.declared.tree.Incumbent.{Incumbent}
use Rattle.branch_tree.specs.declared.node.Fate.TheVariants.{Undone, ClosedBy, DividedBy}
use Rattle.search_machine.specs.State.{Divider, Node, State, region_of, cutoff_of, kept_prices}
use Rattle.search_machine.specs.Machine.{IsReachable}
use Rattle.search_machine.specs.Nodes.{IsSoundNode, IsSoundDivider, IsSoundFate, HasSoundFate}
use Rattle.search_machine.specs.Soundness.{IsSound}
use Rattle.search_machine.specs.PlanOf.{records_by, records_in, records_at, tree_of, open_count, status_by, status_of, stated_design, HasBoundOf, IsPlanOf}
use Rattle.search_machine.proofs.Lists.{All-at}
use Rattle.search_machine.proofs.Runs.{IsReachable-sound}
use Rattle.search_machine.proofs.Small.{IsSound-nodes}
use Rattle.search_machine.proofs.Dividing.{kept_by-sound}
use Rattle.search_machine.proofs.PlanTrees.{tree_of-valid}
use Rattle.plan_of_search.proofs.PlanRecords.{records_sum}

-- valid trees are whole
pub valid-whole : (p : Parts) (cuts : List LoadCut) (cost : Option ℕ) (gs : List Region) (nodes : List TreeNode) → AreRatedTrees p cuts cost gs nodes → are_trees (length gs) nodes ≡ true
valid-whole p cuts cost [] [] h = refl
valid-whole p cuts cost [] (node ∷ nodes) h = absurd h
valid-whole p cuts cost (g ∷ gs) [] h = absurd h
valid-whole p cuts cost (g ∷ gs) (Leaf found ∷ nodes) h = valid-whole p cuts cost gs nodes h.1
valid-whole p cuts cost (g ∷ gs) (Split k at left right ∷ nodes) h = valid-whole p cuts cost (with_arcs g k left ∷ with_arcs g k right ∷ gs) nodes h.1
valid-whole p cuts cost (g ∷ gs) (Loads place load ∷ nodes) h = valid-whole p cuts cost (up_to g place load ∷ above g place load ∷ gs) nodes h.1

-- Sides

same_link : (a b : ℕ) → a < b → ((a / 2) < (b / 2)) ⊎ (((a / 2) ≡ (b / 2)) × ((a % 2) ≡ 0) × ((b % 2) ≡ 1))
same_link a b less = grind arith

module _ (p : Parts) (r : Forbidden) (id : DemandId) (node : NodeId) (arcs : List ArcId) (lawful : IsInstance p) (side : IsSide p r id node arcs) (ascending : IsAscending arcs) where
  link-within : (i : ℕ) → i < length arcs → link_of (arc_at arcs i) < length p.links
  link-within i within = ltb-true _ _ (and-first _ _ (side.are_arcs i no_arc within))

  -- the two arcs of a link leave different nodes
  not_both : (a b : ArcId) → link_of a ≡ link_of b → (a.0 % 2) ≡ 0 → (b.0 % 2) ≡ 1 → link_of b < length p.links → (tail_of p a).0 ≡ (tail_of p b).0 → ⊥
  not_both a b same even odd within tails =
      let forth : is_back a ≡ false = ne_eqb (a.0 % 2) 1 (λ e. absurd (omega arith)) in
      let back : is_back b ≡ true = eq-eqb (b.0 % 2) 1 odd in
      let from_source : (tail_of p a).0 ≡ (link_at p (link_of b)).source.0 = rw forth (ap (λ (e : ℕ). (link_at p e).source.0) same) in
      let from_target : (tail_of p b).0 ≡ (link_at p (link_of b)).target.0 = rw back refl in
      (lawful.links (link_of b) no_link within).different (sym from_source ∙ (tails ∙ from_target))

  -- each arc's link is behind as many others as there are arcs before it
  rank : (i : ℕ) → i < length arcs → i ≤ link_of (arc_at arcs i)
  rank zero within = omega arith
  rank (suc i) within =
      let before = rank i (omega arith) in
      elim (same_link (arc_at arcs i).0 (arc_at arcs (suc i)).0 (ascending i within)) [
        | inl less ↦ omega arith
        | inr both ↦ absurd (not_both (arc_at arcs i) (arc_at arcs (suc i)) both.0 both.1 both.2 (link-within (suc i) within)
            (side.leave i no_arc (omega arith) ∙ sym (side.leave (suc i) no_arc within)))
      ]

  few_arcs : length arcs ≤ length p.links
  few_arcs = by_length (length arcs) refl
    where
      by_length : (n : ℕ) → length arcs ≡ n → length arcs ≤ length p.links
      by_length zero is = omega arith
      by_length (suc n) is = let last = rank n (omega arith) in let within = link-within n (omega arith) in omega arith

  written_side : IsWrittenSide arcs
  written_side = record { few = (let few = few_arcs in let limit = lawful.link_count in omega arith); ascending = ascending }

-- Records

-- the record of a sound split fits
split-fits : (p : Parts) (numbers : ℕ) (g : Region) (by : Divider) → IsInstance p → IsSoundDivider p g by → FitsRecord p.nodes numbers (split_record by)
split-fits p numbers g (divider.Arcs d) lawful sound = (
  written_side p g.forbidden d.demand d.at d.left lawful sound.0.left_side sound.2,
  written_side p g.forbidden d.demand d.at d.right lawful sound.0.right_side sound.3,
)
split-fits p numbers g (divider.Load d) lawful sound = tt

module _ (s : State) (h : IsSound s) where
  abbrev Fits : TreeNode → Type 0
  Fits = FitsRecord s.problem.nodes (places s.problem + length s.cuts)

  records_at-fit : (depth n : ℕ) → All Fits (records_at depth s.nodes n)
  records_at-fit zero n = All-nil Fits
  records_at-fit (suc depth) n = there (λ m. records_at-fit depth m) (slice_get s.nodes n) refl
    where
      by_fate : ((m : ℕ) → All Fits (records_at depth s.nodes m)) → (node : Node) → IsSoundNode s.problem s.cuts node → (fate : Fate) → IsSoundFate s.problem s.cuts (cutoff_of s) (region_of s.problem node) fate → All Fits (records_by (records_at depth s.nodes) node fate)
      by_fate below node k Undone sound =
          All-cons Fits (Leaf (evidence.Open (kept_prices node))) [] (kept_by-sound s.problem s.cuts node node.best k.first_prices k.best).count (All-nil Fits)
      by_fate below node k (ClosedBy found) sound = All-cons Fits (Leaf found) [] sound.2 (All-nil Fits)
      by_fate below node k (DividedBy d) sound =
          All-cons Fits (split_record d.by) (records_at depth s.nodes d.left_child.0 ++ records_at depth s.nodes d.right_child.0)
          (split-fits s.problem (places s.problem + length s.cuts) (region_of s.problem node) d.by h.lawful sound)
          (All-append Fits (records_at depth s.nodes d.left_child.0) (records_at depth s.nodes d.right_child.0)
          (below d.left_child.0) (below d.right_child.0))

      there : ((m : ℕ) → All Fits (records_at depth s.nodes m)) → (o : Option Node) → slice_get s.nodes n ≡ o → All Fits (records_in (records_at depth s.nodes) o)
      there below None is = All-nil Fits
      there below (Some node) is =
          by_fate below node (All-at (IsSoundNode s.problem s.cuts) s.nodes n node h.nodes is) node.fate (All-at (HasSoundFate s.problem s.cuts (cutoff_of s)) s.nodes n node h.fates is)

ones : {X : Type 0} (xs : List X) → sum_by (λ x. 1) xs ≡ length xs
ones [] = refl
ones (x ∷ xs) = omega (arith, sum_by-cons (λ y. 1) x xs, ones xs)

-- as many records as nodes
tree-length : (s : State) → IsReachable s → length (tree_of s) ≡ length s.nodes
tree-length s h = sym (ones (tree_of s)) ∙ (records_sum s (λ x. 1) (λ x. 1) h (λ n node is. refl) ∙ ones s.nodes)

-- Designs

module _ (p : Parts) (lawful : IsInstance p) (cost : ℕ) (d : Design) (stated : IsStatedDesign p cost d) where
  design-fits : FitsDesign (length p.demands) (length p.links) d
  design-fits = record {
    path_count = stated.good.design.path_count;
    list_count = stated.good.design.list_count;
    short_paths = λ k other within.
        let k_in : k < length p.demands = (let count = stated.good.design.path_count in omega arith) in
        let short = length-IsSimplePath p (demand_at p k) (path_at d k) lawful (lawful.demands k no_demand k_in).source (stated.good.design.paths k k_in) in
        let few = lawful.nodes in
        let same : get_or d.paths k other ≡ path_at d k = get_or_default d.paths k other [] within in
        subst (λ (arcs : List ArcId). length arcs ≤ 512) (sym same) (omega arith);
    short_lists = λ e other within.
        let e_in : e < length p.links = (let count = stated.good.design.list_count in omega arith) in
        let count = stated.good.design.counts e e_in in
        let few = (lawful.links e no_link e_in).module_count in
        let same : get_or d.counts e other ≡ counts_at d e = get_or_default d.counts e other [] within in
        subst (λ (counts : List ℕ). length counts ≤ 32) (sym same) (omega arith);
  }

stated-fits : (p : Parts) → IsInstance p → (held : Option Incumbent) → IfSome held (λ x. IsStatedDesign p x.cost x.design)
    → IfSome (stated_design held) (λ design. FitsDesign (length p.demands) (length p.links) design.1)
stated-fits p lawful None h = tt
stated-fits p lawful (Some held) h = design-fits p lawful held.cost held.design h

-- Status

status-fits : (p : Parts) (plan : Plan) (open' : Bool) (held : Option Incumbent) → plan.design ≡ stated_design held → HasBoundOf p plan (status_by open' held)
    → FitsStatus (status_by open' held) plan.design plan.bound
status-fits p plan true held is bound = tt
status-fits p plan false (Some held) is bound = (rw is refl, rw bound refl)
status-fits p plan false None is bound = (rw is refl, rw bound refl)

-- each cut of a list has an answer for each node
cuts-fit : (p : Parts) (cuts : List LoadCut) → IsCutList p cuts → FitsCuts p.nodes cuts
cuts-fit p cuts are = record {
  few = are.few;
  each = λ i d within. subst (λ (cut : LoadCut). length cut.nodes ≡ p.nodes) (sym (get_or_default cuts i d no_cut within)) (are.are_cuts i within).count;
}

-- the plan of a state with a budget that is not 0 and not too great can be spelled
pub plan_spellable : (s : State) (plan : Plan) → IsReachable s → 0 < s.budget → s.budget ≤ MAX_BUDGET → IsPlanOf s plan → IsSpellable plan
plan_spellable s plan reachable some most is =
    let h = IsReachable-sound s reachable in
    let p = s.problem in
    let of_places : places p ≡ places_in plan.both plan.links = sym (ap₂ places_in is.both is.links) in
    let count : places p + length s.cuts ≡ numbers_in plan = ap₂ (λ (n m : ℕ). n + m) of_places (sym (ap length is.cuts)) in
    let one_tree : are_trees 1 (tree_of s) ≡ true = valid-whole p s.cuts (cutoff_of s) (whole p ∷ []) (tree_of s) (tree_of-valid s h) in
    let status : HasBoundOf p plan (status_of s) = subst (HasBoundOf p plan) is.status is.bound in
    record {
      sizes = record {
        nodes = (let a = h.lawful.nodes in let e = is.nodes in omega arith);
        links = (let a = h.lawful.link_count in let e = is.links in omega arith);
        demands = (let a = h.lawful.demand_count in let e = is.demands in omega arith);
        some_budget = (let e = is.budget in omega arith);
        budget = (let e = is.budget in omega arith);
      };
      status = subst (λ (st : PlanStatus). FitsStatus st plan.design plan.bound) (sym is.status)
          (status-fits p plan (nat_lt 0 (open_count s)) s.incumbent is.design status);
      design = subst (λ (o : Option (ℕ × Design)). IfSome o (λ design. FitsDesign plan.demands plan.links design.1)) (sym is.design)
          (subst (λ (n : ℕ). IfSome (stated_design s.incumbent) (λ design. FitsDesign n plan.links design.1)) (sym is.demands)
          (subst (λ (n : ℕ). IfSome (stated_design s.incumbent) (λ design. FitsDesign (length p.demands) n design.1)) (sym is.links) (stated-fits p h.lawful s.incumbent h.incumbent)));
      whole = ap (are_trees 1) is.tree ∙ one_tree;
      cuts = subst (FitsCuts plan.nodes) (sym is.cuts) (subst (λ (n : ℕ). FitsCuts n s.cuts) (sym is.nodes) (cuts-fit p s.cuts h.cuts));
      records = record {
        few = (let size = tree-length s reachable in let most_nodes = IsSound-nodes s h in let e : length plan.tree ≡ length (tree_of s) = ap length is.tree in omega arith);
        each = subst (All (FitsRecord plan.nodes (numbers_in plan))) (sym is.tree)
            (subst (λ (n : ℕ). All (FitsRecord n (numbers_in plan)) (tree_of s)) (sym is.nodes)
            (subst (λ (n : ℕ). All (FitsRecord p.nodes n) (tree_of s)) count (records_at-fit s h (length s.nodes) 0)));
      };
    }
