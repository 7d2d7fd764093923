-- The bounds of open leaves, how they are priced, and the cost of the best design.
use Rattle.std.proofs.Common.{◌≡◌, ◌≢◌, ℕ, zero, suc, ◌+◌, ◌*◌, ◌^◌, ◌<◌, ◌≤◌, ◌⊎◌, inl, inr, Bool, true, false, List, length, set, length-set, get_or, slice_index, Option, Some, None, slice_get, IsTrue, refl, sym, ap, ap₂, subst, ◌∙◌, arith, ℤ, mul-le-mul}
use Rattle.std.specs.Prelude.{IsFalse, IsSome, IfSome, IfOk, Result, Ok, Err, option_map, ◌↔◌}
use Rattle.std.proofs.lemmas.List.{get_or_default, get_or_past, get_or-set_same, get_or-set_other}
use Rattle.std.proofs.lemmas.List.Sums.{sum_by-le}
use Rattle.std.proofs.lemmas.Option.{slice_get-get_or}
use Rattle.plan_base.specs.declared.parts.Parts.{Parts}
use Rattle.plan_base.specs.declared.path.Design.{Design}
use Rattle.plan_base.specs.declared.limits.TheConstants.{MAX_COUNT_COST, MAX_LINKS}
use Rattle.plan_base.specs.Sums.{sum_below}
use Rattle.plan_base.specs.Facts.{IsInstance, price_limit}
use Rattle.plan_base.specs.Arcs.{link_at, demand_at, no_link, no_demand}
use Rattle.plan_base.specs.Places.{place_of, there_of, back_of}
use Rattle.plan_base.specs.Designs.{module_at, counts_at, load_at, link_cost}
use Rattle.plan_base.proofs.LoadLaws.{need-le-total}
use Rattle.plan_base.proofs.PathLaws.{length-IsSimplePath}
use Rattle.completions.proofs.CompletionLaws.{both-within}
use Rattle.arc_restrict.specs.Restrictions.{Forbidden, HasNoPath}
use Rattle.path_pricing.specs.Priced.{ArePrices}
use Rattle.arc_restrict.specs.Rows.{Rows}
use Rattle.link_steps.specs.declared.range.LoadRange.{LoadRange}
use Rattle.link_steps.specs.Ranges.{AreRanges}
use Rattle.arc_restrict.specs.Prices.{AreWithinLimit, IsLeastPrice}
use Rattle.proof_tree.specs.Regions.{Region}
use Rattle.proof_tree.specs.declared.cuts.Cut.{Cut}
use Rattle.proof_tree.specs.RatedEvidence.{IsBoundAt}
use Rattle.cut_values.specs.Numbers.{AreNumbers}
use Rattle.proof_tree.specs.Plans.{IsStatedDesign}
use Rattle.bound_assembly.specs.Rounds.{RoundState, length_at, HasLength, left_in, with_length}
use Rattle.bound_assembly.specs.RoundBounds.{AreShort, IsRoundBound}
use Rattle.bound_assembly.specs.declared.limits.TheConstants.{MAX_PATH_LINKS}
use Rattle.bound_assembly.proofs.Gaps.{left-none}
use Rattle.bound_assembly.proofs.LeastLengths.{round_bound-bound}
use Rattle.search_machine.specs.declared.tree.Incumbent.{Incumbent}
use Rattle.branch_tree.specs.declared.node.Fate.{Fate}
use Rattle.branch_tree.specs.declared.node.Fate.TheVariants.{Undone, ClosedBy, DividedBy}
use Rattle.search_machine.specs.State.{Best, Node, State, region_of, kept_by, kept_prices}
use Rattle.search_machine.specs.Machine.{IsReachable}
use Rattle.search_machine.specs.Changes.{bound_in}
use Rattle.search_machine.specs.Nodes.{IsSoundBest}
use Rattle.search_nodes.specs.Grounds.{Kept, IsGroundOf, HasGrounds}
use Rattle.plan_of_search.specs.PlanParts.{region_in, IsBoundOrNone, IsLeafBound, IsLeafBoundOrNone}
use Rattle.search_machine.proofs.Frames.{one_at, same_or_other}
use Rattle.search_machine.proofs.Replacing.{node_at}
use Rattle.search_machine.proofs.Runs.{IsReachable-sound}

-- The bound of a leaf

ground-undone : (p : Parts) (g : Region) (fate : Fate) (kept : Kept) → IsGroundOf p g fate (Some kept) → (fate ≡ Undone) × (region_in kept ≡ g)
ground-undone p g Undone kept h = (refl, ap₂ (λ (r : Forbidden) (ranges : List LoadRange). let x : Region = record { forbidden = r; ranges = ranges } in x) h.forbidden h.ranges)
ground-undone p g (ClosedBy found) kept h = absurd (cc)
ground-undone p g (DividedBy d) kept h = absurd (cc)

module _ (s : State) (h : IsReachable s) (grounds : List (Option Kept)) (has : HasGrounds s.problem s.nodes grounds) (n : ℕ) (node : Node) (is : slice_get s.nodes n ≡ Some node) (ground : Option Kept) (at : slice_get grounds n ≡ Some ground) where
  is_ground : IsGroundOf s.problem (region_of s.problem node) node.fate ground
  is_ground =
      let g = has.each n node is in
      subst (IsGroundOf s.problem (region_of s.problem node) node.fate) (one_at grounds n g.0 ground g.1 at) g.2

  module _ (kept : Kept) (there : ground ≡ Some kept) where
    open_leaf : (node.fate ≡ Undone) × (region_in kept ≡ region_of s.problem node)
    open_leaf = ground-undone s.problem (region_of s.problem node) node.fate kept (subst (IsGroundOf s.problem (region_of s.problem node) node.fate) there is_ground)

    -- the ranges that are kept are ranges
    pub leaf-ranges : AreRanges s.problem kept.ranges
    leaf-ranges = subst (λ (g : Region). AreRanges s.problem g.ranges) (sym open_leaf.1) (node_at s n node (IsReachable-sound s h) is).ranges

    -- the recorded bound
    pub leaf-recorded : (bound : ℤ) → bound_in (Some node) ≡ Some bound → IsLeafBoundOrNone s n (Some bound)
    leaf-recorded bound recorded = by_best node.best refl recorded
      where
        by_best : (best : Option Best) → node.best ≡ best → option_map (λ (b : Best). b.bound) best ≡ Some bound → IsLeafBound s n bound
        by_best None none bad = absurd (cc)
        by_best (Some best) some same =
            let b : IsSoundBest s.problem s.cuts (region_of s.problem node) node.first_prices node.completed best = rw some at ((node_at s n node (IsReachable-sound s h) is).best) in
            let bound_is : best.bound ≡ bound = cc in
            record {
              node = node;
              is_node = is;
              undone = open_leaf.0;
              is_bound = subst (λ (o : Option Best). IsBoundAt s.problem s.cuts (region_of s.problem node) (kept_by o node.first_prices) bound) (sym some)
                  (subst (λ (x : ℤ). IsBoundAt s.problem s.cuts (region_of s.problem node) best.prices x) bound_is b.is_bound);
            }

    -- the bound at the first prices, where none is recorded
    pub leaf-priced : (found : Option ℤ) → bound_in (Some node) ≡ None → IsBoundOrNone s.problem s.cuts (region_in kept) node.first_prices found → IsLeafBoundOrNone s n found
    leaf-priced found none priced = by_found found (subst (λ (g : Region). IsBoundOrNone s.problem s.cuts g node.first_prices found) open_leaf.1 priced)
      where
        no_best : (best : Option Best) → option_map (λ (b : Best). b.bound) best ≡ None → best ≡ None
        no_best None e = refl
        no_best (Some best) e = absurd (cc)

        at_first : kept_prices node ≡ node.first_prices
        at_first = ap (λ (o : Option Best). kept_by o node.first_prices) (no_best node.best none)

        by_found : (found : Option ℤ) → IsBoundOrNone s.problem s.cuts (region_of s.problem node) node.first_prices found → IsLeafBoundOrNone s n found
        by_found None unbounded = λ bound leaf.
            let same = one_at s.nodes n leaf.node node leaf.is_node is in
            let at_kept : IsBoundAt s.problem s.cuts (region_of s.problem node) (kept_prices node) bound = subst (λ (x : Node). IsBoundAt s.problem s.cuts (region_of s.problem x) (kept_prices x) bound) same leaf.is_bound in
            unbounded bound (subst (λ (ps : List ℕ). IsBoundAt s.problem s.cuts (region_of s.problem node) ps bound) at_first at_kept)
        by_found (Some bound) priced_so = record {
          node = node;
          is_node = is;
          undone = open_leaf.0;
          is_bound = subst (λ (ps : List ℕ). IsBoundAt s.problem s.cuts (region_of s.problem node) ps bound) (sym at_first) priced_so;
        }

-- Pricing all demands

below-or-here : (i n : ℕ) → i < n + 1 → (i < n) ⊎ (i ≡ n)
below-or-here i n h = grind arith

-- numbers as they have to be begin with prices
pub numbers-prices : (p : Parts) (cuts : List Cut) (numbers : List ℕ) → AreNumbers p cuts numbers → ArePrices p numbers
numbers-prices p cuts numbers are = record { count = (let c = are.count in omega arith); within_limit = are.lawful.prices_within }

-- a round of these prices in which the demands before this one have their least prices, and no other has a length
pub record ArePricedBefore (p : Parts) (r : Forbidden) (prices : List ℕ) (round : RoundState) (number : ℕ) : Type 0 where
  pub begun : IsTrue round.begun
  pub prices_are : round.prices ≡ prices
  pub count : length round.lengths ≡ length p.demands
  pub full : (k : ℕ) → k < number → HasLength round.lengths k
  pub least : (k price : ℕ) → length_at round.lengths k ≡ Some price → IsLeastPrice p r prices k price
  pub further : (k : ℕ) → number ≤ k → length_at round.lengths k ≡ None

-- the next demand has its least price too
module _ (p : Parts) (r : Forbidden) (prices : List ℕ) (round : RoundState) (number price : ℕ) (within : number < length p.demands) (before : ArePricedBefore p r prices round number)
    (least : IsLeastPrice p r prices number price) where
  abbrev after : List (Option ℕ)
  after = set round.lengths number (Some price)

  put-here : length_at after number ≡ Some price
  put-here = get_or-set_same {A = Option ℕ} round.lengths number (Some price) None (let c = before.count in omega arith)

  put-other : (k : ℕ) → k ≢ number → length_at after k ≡ length_at round.lengths k
  put-other k other = get_or-set_other {A = Option ℕ} round.lengths number k (Some price) None other

  least-here : (k cost : ℕ) → k ≡ number → length_at after k ≡ Some cost → IsLeastPrice p r prices k cost
  least-here k cost here at =
      let both : ◌≡◌ {A = Option ℕ} (Some price) (Some cost) = sym put-here ∙ subst (λ (i : ℕ). length_at after i ≡ Some cost) here at in
      let same : price ≡ cost = cc in
      subst (λ (i : ℕ). IsLeastPrice p r prices i cost) (sym here) (subst (IsLeastPrice p r prices number) same least)

  priced-more : ArePricedBefore p r prices (with_length round number price) (number + 1)
  priced-more = record {
    begun = before.begun;
    prices_are = before.prices_are;
    count = length-set round.lengths number (Some price) ∙ before.count;
    full = λ k below. elim (below-or-here k number below) [
      | inl earlier ↦ subst IsSome (sym (put-other k (λ e. absurd (omega arith)))) (before.full k earlier)
      | inr here ↦ subst (HasLength after) (sym here) (subst IsSome (sym put-here) refl)
    ];
    least = λ k cost at. elim (same_or_other k number) [
      | inl here ↦ least-here k cost here at
      | inr other ↦ before.least k cost (sym (put-other k other) ∙ at)
    ];
    further = λ k beyond. put-other k (λ e. absurd (omega arith)) ∙ before.further k (omega arith);
  }

  -- when the length of the next demand is put, one demand more has its least price
  pub priced-next : (put : Bool) (new : RoundState) → (IsFalse put ↔ HasLength round.lengths number) → (IsTrue put → new ≡ with_length round number price)
      → ArePricedBefore p r prices new (number + 1)
  priced-next true new known is = subst (λ (x : RoundState). ArePricedBefore p r prices x (number + 1)) (sym (is refl)) priced-more
  priced-next false new known is = absurd (let bad : false ≡ true = subst IsSome (before.further number (omega arith)) (known.0 refl) in cc)

price-within : (p : Parts) (prices : List ℕ) → AreWithinLimit p prices → (q : ℕ) → slice_index prices q ≤ price_limit p
price-within p prices within q = elim (past-or-there (length prices) q) [
  | inl past ↦ (let none : slice_index prices q ≡ 0 = get_or_past prices q 0 past in omega arith)
  | inr there ↦ within q 0 there
]
  where
    past-or-there : (n i : ℕ) → (n ≤ i) ⊎ (i < n)
    past-or-there n i = grind arith

-- a least price is that of a simple path, which has at most so many arcs
least-short : (p : Parts) (r : Forbidden) (prices : List ℕ) (k price : ℕ) → IsInstance p → AreWithinLimit p prices → k < length p.demands → IsLeastPrice p r prices k price → price ≤ MAX_PATH_LINKS * price_limit p
least-short p r prices k price lawful within below least =
    let start = (lawful.demands k no_demand below).source in
    let few = length-IsSimplePath p (demand_at p k) least.path lawful start least.permitted.simple in
    let nodes = lawful.nodes in
    let each = sum_by-le (λ a. slice_index prices (place_of p a)) (price_limit p) least.path (λ i d there. price-within p prices within (place_of p (get_or least.path i d))) in
    let arcs : length least.path ≤ MAX_PATH_LINKS = omega arith in
    let same : price_limit p ≤ price_limit p = omega arith in
    let most : length least.path * price_limit p ≤ MAX_PATH_LINKS * price_limit p = mul-le-mul arcs same in
    let is = least.attained in
    omega arith

-- the lengths of the demands priced so far are at most the price limit times the most links of a path
pub priced-short : (p : Parts) (r : Forbidden) (prices : List ℕ) (round : RoundState) (number : ℕ) → IsInstance p → AreWithinLimit p prices → ArePricedBefore p r prices round number → AreShort p round.lengths
priced-short p r prices round number lawful within before k d there = by_length (get_or round.lengths k d) refl
  where
    at : get_or round.lengths k d ≡ length_at round.lengths k
    at = get_or_default round.lengths k d None there

    by_length : (o : Option ℕ) → get_or round.lengths k d ≡ o → IfSome o (λ price. price ≤ MAX_PATH_LINKS * price_limit p)
    by_length None is = tt
    by_length (Some price) is = least-short p r prices k price lawful within (let c = before.count in omega arith) (before.least k price (sym at ∙ is))

-- when all demands are priced, none is left
pub priced-all : (p : Parts) (r : Forbidden) (prices : List ℕ) (round : RoundState) (number : ℕ) → length p.demands ≤ number → ArePricedBefore p r prices round number → left_in round.lengths ≡ 0
priced-all p r prices round number all before = left-none round.lengths (λ k below. before.full k (let c = before.count in omega arith))

-- when all demands are priced, the bound found of the round is the bound of the region at its prices
pub priced-bound : (p : Parts) (cuts : List Cut) (g : Region) (prices : List ℕ) (round : RoundState) (number : ℕ) (found : Option ℤ) → length p.demands ≤ number → ArePricedBefore p g.forbidden prices round number
    → ((found ≡ None) ↔ (0 < left_in round.lengths)) → IfSome found (IsRoundBound p cuts g.ranges round.prices round.lengths) → IsBoundOrNone p cuts g prices found
priced-bound p cuts g prices round number None all before none bound =
    let left = priced-all p g.forbidden prices round number all before in
    let some = none.0 refl in
    absurd (omega arith)
priced-bound p cuts g prices round number (Some bound) all before none is =
    round_bound-bound p cuts g prices round.lengths bound (λ k price below at. before.least k price at) (subst (λ (ps : List ℕ). IsRoundBound p cuts g.ranges ps round.lengths bound) before.prices_are is)

-- where a demand has no permitted path, the region has no bound
pub unpriced-bound : (p : Parts) (cuts : List Cut) (g : Region) (prices : List ℕ) (k : ℕ) → k < length p.demands → HasNoPath p g.forbidden k → IsBoundOrNone p cuts g prices None
unpriced-bound p cuts g prices k within none = λ bound is. let least = is.are_least k within in none least.path least.permitted

-- Costs

modules-within : (f : ℕ → ℕ) (n : ℕ) → ((i : ℕ) → i < n → f i ≤ MAX_COUNT_COST) → sum_below f n ≤ n * MAX_COUNT_COST
modules-within f zero h = omega arith
modules-within f (suc n) h = let before = modules-within f n (λ i below. h i (omega arith)) in let here = h n (omega arith) in omega arith

links-within : (f : ℕ → ℕ) (n : ℕ) → ((i : ℕ) → i < n → f i ≤ 34 * MAX_COUNT_COST) → sum_below f n ≤ n * (34 * MAX_COUNT_COST)
links-within f zero h = omega arith
links-within f (suc n) h = let before = links-within f n (λ i below. h i (omega arith)) in let here = h n (omega arith) in omega arith

-- the cost of a good design fits a bound
pub cost-small : (p : Parts) (cost : ℕ) (d : Design) → IsInstance p → IsStatedDesign p cost d → cost < 2 ^ 127
cost-small p cost d lawful stated =
    let good = stated.good in
    let each : (e : ℕ) → e < length p.links → link_cost p d e ≤ 34 * MAX_COUNT_COST = λ e within.
    let routed = both-within p e (there_of p (load_at p d) e) (back_of p (load_at p d) e) lawful within (need-le-total p d e) in
    let modules = modules-within (λ m. slice_index (counts_at d e) m * (module_at (link_at p e) m).cost) (length (link_at p e).modules) (λ m below. (good.in_shape e within m below).cost_within) in
    let few = (lawful.links e no_link within).module_count in
    omega arith in
    let sum = links-within (link_cost p d) (length p.links) each in
    let links = lawful.link_count in
    let is = stated.cost_is in
    small cost (length p.links) (omega arith) links
  where
    small : (c n : ℕ) → c ≤ n * (34 * MAX_COUNT_COST) → n ≤ MAX_LINKS → c < 2 ^ 127
    small c n h few = omega arith

-- the held design costs less
pub held-small : (s : State) (held : Incumbent) → IsReachable s → s.incumbent ≡ Some held → held.cost < 2 ^ 127
held-small s held h is =
    let sound = IsReachable-sound s h in
    let stated : IfSome (Some held) (λ (x : Incumbent). IsStatedDesign s.problem x.cost x.design) =
    subst (λ (o : Option Incumbent). IfSome o (λ (x : Incumbent). IsStatedDesign s.problem x.cost x.design)) is sound.incumbent in
    cost-small s.problem held.cost held.design sound.lawful stated

-- Calls at a node

-- a node's first prices are prices and rates, as they have to be
pub first-prices : (s : State) (n : ℕ) (node : Node) → IsReachable s → slice_get s.nodes n ≡ Some node → AreNumbers s.problem s.cuts node.first_prices
first-prices s n node h is = (node_at s n node (IsReachable-sound s h) is).first_prices

-- what is kept is its rows and its ranges
pub kept-is : (kept read : Kept) → read.rows ≡ kept.rows → read.ranges ≡ kept.ranges → read ≡ kept
kept-is kept read rows ranges = ap₂ (λ (r : Rows) (rs : List LoadRange). let x : Kept = record { rows = r; ranges = rs } in x) rows ranges

-- a ground that is there is read as it is
pub read-ground : {X Y : Type 0} (f : X → Y) (o : Option X) (x : X) (ground : Option Y) → option_map f o ≡ ground → o ≡ Some x → ground ≡ Some (f x)
read-ground f o x ground mapped is = sym mapped ∙ ap (option_map f) is

-- what is read of a node and its ground
module _ (s : State) (h : IsReachable s) (grounds : List (Option Kept)) (has : HasGrounds s.problem s.nodes grounds) (n : ℕ) (within : n < length s.nodes) where
  -- each node has a place among the kept regions
  pub ground-within : n < length grounds
  ground-within = subst (λ (m : ℕ). n < m) (sym has.count) within

  module _ (ground : Option Kept) (read : ground ≡ get_or grounds n ground) where
    ground_there : slice_get grounds n ≡ Some ground
    ground_there = slice_get-get_or grounds n ground ground-within ∙ ap (λ (x : Option Kept). Some x) (sym read)

    module _ (node : Node) (read_node : node ≡ get_or s.nodes n node) where
      node_there : slice_get s.nodes n ≡ Some node
      node_there = slice_get-get_or s.nodes n node within ∙ ap (λ (x : Node). Some x) (sym read_node)

      -- the first prices of a node that is read are lawful prices and rates
      pub read-first : AreNumbers s.problem s.cuts node.first_prices
      read-first = first-prices s n node h node_there

      module _ (kept : Kept) (there : ground ≡ Some kept) where
        -- the kept ranges of a node that is read give each place a load, and none above its link's top load
        pub read-ranges : AreRanges s.problem kept.ranges
        read-ranges = leaf-ranges s h grounds has n node node_there ground ground_there kept there

        -- the recorded bound of an open leaf that is read is its bound at its kept prices
        pub read-recorded : (bound : ℤ) → bound_in (Some node) ≡ Some bound → IsLeafBoundOrNone s n (Some bound)
        read-recorded = leaf-recorded s h grounds has n node node_there ground ground_there kept there

        -- the same where nothing may be recorded
        pub read-found : (found : Option ℤ) → found ≡ bound_in (Some node) → IfSome found (IsLeafBound s n)
        read-found None same = tt
        read-found (Some bound) same = read-recorded bound (sym same)

        -- where no bound is recorded, what the first prices give, bound or none, is so of the leaf
        pub read-priced : (found : Option ℤ) → bound_in (Some node) ≡ None → IsBoundOrNone s.problem s.cuts (region_in kept) node.first_prices found → IsLeafBoundOrNone s n found
        read-priced = leaf-priced s h grounds has n node node_there ground ground_there kept there

-- what follows from what a result says of its value may be said of it instead
pub if_ok-more : {X E : Type 0} (P Q : X → Type 0) (result : Result X E) → ((x : X) → P x → Q x) → IfOk result P → IfOk result Q
if_ok-more P Q (Ok x) more is = more x is
if_ok-more P Q (Err e) more is = tt
