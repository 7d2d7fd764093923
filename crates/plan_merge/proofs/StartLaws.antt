-- The starts of a tree, and the trees that grow from them.
use Rattle.std.proofs.Common.{◌≡◌, ℕ, suc, ◌+◌, ◌≤◌, ◌<◌, ◌*◌, List, [], ◌∷◌, ◌++◌, map, length, Option, Bool, true, false, refl, sym, ap₂, subst, arith}
use Rattle.std.specs.Prelude.{All, ⊤, IsTrue, ◌&&◌, count_by}
use Rattle.std.proofs.lemmas.List.Elements.{All-nil, All-cons, All-head, All-tail, All-weaker}
use Rattle.std.proofs.lemmas.List.Sums.{sum_by-cons}
use Rattle.plan_base.specs.declared.ids.ArcId.{ArcId}
use Rattle.plan_base.specs.declared.ids.DemandId.{DemandId}
use Rattle.plan_base.specs.declared.limits.TheConstants.{MAX_TOTAL_LOAD}
use Rattle.plan_base.specs.declared.parts.Parts.{Parts}
use Rattle.plan_base.specs.Arcs.{is_arc}
use Rattle.plan_base.specs.Facts.{total_load}
use Rattle.plan_base.specs.Places.{places}
use Rattle.link_steps.proofs.WholeRanges.{AreRanges-whole}
use Rattle.proof_tree.specs.declared.cuts.Cut.{Cut as LoadCut}
use Rattle.proof_tree.specs.declared.plan.Plan.{Plan}
use Rattle.proof_tree.specs.declared.tree.Evidence.TheVariants.{Bound, Routed, Overfull, Cut, Far, Crowd, Open}
use Rattle.proof_tree.specs.declared.tree.TreeNode.{TreeNode}
use Rattle.proof_tree.specs.declared.tree.TreeNode.TheVariants.{Split, Loads, Leaf}
use Rattle.proof_tree.specs.Regions.{Region, IsLoadSplit}
use Rattle.proof_tree.specs.Trees.{children_at}
use Rattle.proof_tree.specs.Splits.{IsSplit}
use Rattle.proof_tree.specs.Plans.{is_open, HasSizes}
use Rattle.proof_tree.specs.RatedTrees.{IsRatedRecord}
use Rattle.proof_tree.specs.Spellings.{FitsRecord, IsSpellable, numbers_in, places_in}
use Rattle.branch_tree.specs.declared.node.Limit.{Limit}
use Rattle.branch_tree.specs.declared.node.Limit.TheVariants as limit
use Rattle.branch_tree.specs.declared.node.Divider.TheVariants as divider
use Rattle.branch_tree.specs.Branches.{region_by, ranges_by, IsLimitOf}
use Rattle.branch_tree.proofs.LimitLaws.{HasSides, load-sides}
use Rattle.branch_tree.proofs.BranchLaws.{arc_within}
use Rattle.plan_merge.specs.declared.bounded_record.BoundedRecord.{BoundedRecord}
use Rattle.plan_merge.specs.declared.start.Start.{Start}
use Rattle.plan_merge.specs.Walks.{nodes_of, numbers_of, EachAt}
use Rattle.plan_merge.specs.Growing.{subtree_here, subtrees_after, put_in, AreGrown}
use Rattle.plan_merge.specs.Starts.{limits_below, start_if, starts_at, starts_of, HoldsAtStart, AreLawfulLimits, IsStart}

-- an open leaf is the leaf with its numbers
open-is : (node : TreeNode) → is_open node ≡ true → node ≡ Leaf (Open (numbers_of node))
open-is (Leaf (Open numbers)) h = refl
open-is (Leaf (Bound numbers)) h = absurd (let bad : false ≡ true = h in cc)
open-is (Leaf Routed) h = absurd (let bad : false ≡ true = h in cc)
open-is (Leaf (Overfull link)) h = absurd (let bad : false ≡ true = h in cc)
open-is (Leaf (Cut demand reached)) h = absurd (let bad : false ≡ true = h in cc)
open-is (Leaf (Far demand)) h = absurd (let bad : false ≡ true = h in cc)
open-is (Leaf (Crowd prices)) h = absurd (let bad : false ≡ true = h in cc)
open-is (Split id at left right) h = absurd (let bad : false ≡ true = h in cc)
open-is (Loads place load) h = absurd (let bad : false ≡ true = h in cc)

first : (a b : Bool) → (a && b) ≡ true → a ≡ true
first true b h = refl
first false b h = h

-- whole trees, and behind them others
pub each-nodes_append : (Q : Region → TreeNode → Type 0) (gs hs : List Region) (nodes more : List TreeNode) → EachAt Q gs nodes → EachAt Q hs more → EachAt Q (gs ++ hs) (nodes ++ more)
each-nodes_append Q [] hs [] more h k = k
each-nodes_append Q [] hs (node ∷ nodes) more h k = absurd h
each-nodes_append Q (g ∷ gs) hs [] more h k = absurd h
each-nodes_append Q (g ∷ gs) hs (Leaf evidence ∷ nodes) more h k = (h.0, each-nodes_append Q gs hs nodes more h.1 k)
each-nodes_append Q (g ∷ gs) hs (Split id at left right ∷ nodes) more h k = (h.0, each-nodes_append Q (children_at g (Split id at left right) ++ gs) hs nodes more h.1 k)
each-nodes_append Q (g ∷ gs) hs (Loads place load ∷ nodes) more h k = (h.0, each-nodes_append Q (children_at g (Loads place load) ++ gs) hs nodes more h.1 k)

module _ (Q : Region → TreeNode → Type 0) (p : Parts) where
  -- the regions of a record's children are those of the limits below it
  below : (limits : List Limit) (more : List (List Limit)) (node : TreeNode) (nodes : List TreeNode) → EachAt Q (children_at (region_by p limits) node ++ map (region_by p) more) nodes
      → EachAt Q (map (region_by p) (limits_below limits node ++ more)) nodes
  below limits more (Leaf evidence) nodes h = h
  below limits more (Split id at left right) nodes h = h
  below limits more (Loads place load) nodes h = h

  above : (limits : List Limit) (more : List (List Limit)) (node : TreeNode) (nodes : List TreeNode) → EachAt Q (map (region_by p) (limits_below limits node ++ more)) nodes
      → EachAt Q (children_at (region_by p limits) node ++ map (region_by p) more) nodes
  above limits more (Leaf evidence) nodes h = h
  above limits more (Split id at left right) nodes h = h
  above limits more (Loads place load) nodes h = h

  -- at a start's leaf holds what holds of its record
  pub starts-each : (lss : List (List Limit)) (xs : List BoundedRecord) (chosen : List Bool) → EachAt Q (map (region_by p) lss) (nodes_of xs) → All (HoldsAtStart Q p) (starts_at lss xs chosen)
  starts-each [] xs chosen h = All-nil (HoldsAtStart Q p)
  starts-each (limits ∷ more) [] chosen h = absurd h
  starts-each (limits ∷ more) (x ∷ xs) [] h = All-nil (HoldsAtStart Q p)
  starts-each (limits ∷ more) (x ∷ xs) (one ∷ chosen) h =
      one_start (is_open x.node && one) refl (starts-each (limits_below limits x.node ++ more) xs chosen (below limits more x.node (nodes_of xs) h.1))
    where
      one_start : (b : Bool) → (is_open x.node && one) ≡ b → All (HoldsAtStart Q p) (starts_at (limits_below limits x.node ++ more) xs chosen)
          → All (HoldsAtStart Q p) (start_if b limits x.node ++ starts_at (limits_below limits x.node ++ more) xs chosen)
      one_start false is rest = rest
      one_start true is rest =
          let same = open-is x.node (first (is_open x.node) one is) in
          All-cons (HoldsAtStart Q p) (record { limits = limits; prices = numbers_of x.node }) (starts_at (limits_below limits x.node ++ more) xs chosen) (subst (Q (region_by p limits)) same h.0) rest

  -- a tree grows where trees of its starts stand in place of its chosen open leaves
  pub grown-each : (lss : List (List Limit)) (xs : List BoundedRecord) (chosen : List Bool) (subs : List (List TreeNode)) → length chosen ≡ length xs → EachAt Q (map (region_by p) lss) (nodes_of xs)
      → AreGrown Q p (starts_at lss xs chosen) subs → EachAt Q (map (region_by p) lss) (put_in xs chosen subs)
  grown-each [] [] chosen subs same h k = tt
  grown-each [] (x ∷ xs) chosen subs same h k = absurd h
  grown-each (limits ∷ more) [] chosen subs same h k = absurd h
  grown-each (limits ∷ more) (x ∷ xs) [] subs same h k = absurd (omega (arith, same))
  grown-each (limits ∷ more) (x ∷ xs) (one ∷ chosen) subs same h k =
      one_grown (is_open x.node && one) refl subs (λ others g. grown-each (limits_below limits x.node ++ more) xs chosen others (omega (arith, same)) (below limits more x.node (nodes_of xs) h.1) g) k
    where
      Deeper : Type 0
      Deeper = (others : List (List TreeNode)) → AreGrown Q p (starts_at (limits_below limits x.node ++ more) xs chosen) others
          → EachAt Q (map (region_by p) (limits_below limits x.node ++ more)) (put_in xs chosen others)

      stays : (others : List (List TreeNode)) → EachAt Q (map (region_by p) (limits_below limits x.node ++ more)) (put_in xs chosen others) → EachAt Q (region_by p limits ∷ map (region_by p) more) (x.node ∷ put_in xs chosen others)
      stays others rest = (h.0, above limits more x.node (put_in xs chosen others) rest)

      leaf_above : (node : TreeNode) → is_open node ≡ true → (nodes : List TreeNode) → EachAt Q (map (region_by p) (limits_below limits node ++ more)) nodes → EachAt Q (map (region_by p) more) nodes
      leaf_above (Leaf evidence) is nodes rest = rest
      leaf_above (Split id at left right) is nodes rest = absurd (let bad : false ≡ true = is in cc)
      leaf_above (Loads place load) is nodes rest = absurd (let bad : false ≡ true = is in cc)

      one_grown : (b : Bool) → (is_open x.node && one) ≡ b → (trees : List (List TreeNode)) → Deeper → AreGrown Q p (start_if b limits x.node ++ starts_at (limits_below limits x.node ++ more) xs chosen) trees
          → EachAt Q (region_by p limits ∷ map (region_by p) more) (subtree_here b x.node trees ++ put_in xs chosen (subtrees_after b trees))
      one_grown false is trees deeper grown = stays trees (deeper trees grown)
      one_grown true is [] deeper grown = stays [] (deeper [] (none_grown (starts_at (limits_below limits x.node ++ more) xs chosen)))
        where
          none_grown : (starts : List Start) → AreGrown Q p starts []
          none_grown [] = tt
          none_grown (start ∷ starts) = tt
      one_grown true is (sub ∷ others) deeper grown =
          each-nodes_append Q (region_by p limits ∷ []) (map (region_by p) more) sub (put_in xs chosen others) grown.0
          (leaf_above x.node (first (is_open x.node) one is) (put_in xs chosen others) (deeper others grown.1))

module _ (p : Parts) (cuts : List LoadCut) (cost : Option ℕ) where
  -- limits of the trees to come are lawful
  abbrev AreAllLawful : List (List Limit) → Type 0
  AreAllLawful [] = ⊤
  AreAllLawful (limits ∷ more) = AreLawfulLimits p limits × AreAllLawful more

  arcs-lawful : (limits : List Limit) (id : DemandId) (arcs : List ArcId) → id.0 < length p.demands → All (λ a. IsTrue (is_arc p a)) arcs → AreLawfulLimits p limits → AreLawfulLimits p (limit.Arcs id arcs ∷ limits)
  arcs-lawful limits id arcs demand are k =
      (All-cons (IsLimitOf p) (limit.Arcs id arcs) limits (demand, All-weaker (λ a. IsTrue (is_arc p a)) (λ a. a.0 < 2 * length p.links) (arc_within p) arcs are) k.0, k.1)

  -- so are those of a record's children
  children-lawful : total_load p ≤ MAX_TOTAL_LOAD → (limits : List Limit) (more : List (List Limit)) (node : TreeNode) → IsRatedRecord p cuts cost (region_by p limits) node → AreLawfulLimits p limits → AreAllLawful more
      → AreAllLawful (limits_below limits node ++ more)
  children-lawful total limits more (Leaf evidence) h k rest = rest
  children-lawful total limits more (Split id at left right) h k rest =
      let split : IsSplit p (region_by p limits).forbidden id at left right = h in
      (arcs-lawful limits id left split.demand split.left_side.are_arcs k, (arcs-lawful limits id right split.demand split.right_side.are_arcs k, rest))
  children-lawful total limits more (Loads place load) h k rest =
      let split : IsLoadSplit p (region_by p limits).ranges place load = h in
      let sides : HasSides p (ranges_by p limits) (divider.Load (record { place = place; load = load })) = load-sides p (region_by p limits) (record { place = place; load = load }) total k.1 split in
      ((All-cons (IsLimitOf p) (limit.UpTo place load) limits sides.left k.0, sides.left_ranges), ((All-cons (IsLimitOf p) (limit.Above place load) limits sides.right k.0, sides.right_ranges), rest))

  -- the starts of a valid tree have lawful limits and numbers
  pub starts-lawful : total_load p ≤ MAX_TOTAL_LOAD → (lss : List (List Limit)) (xs : List BoundedRecord) (chosen : List Bool) → EachAt (IsRatedRecord p cuts cost) (map (region_by p) lss) (nodes_of xs) → AreAllLawful lss
      → All (IsStart p cuts) (starts_at lss xs chosen)
  starts-lawful total [] xs chosen h k = All-nil (IsStart p cuts)
  starts-lawful total (limits ∷ more) [] chosen h k = All-nil (IsStart p cuts)
  starts-lawful total (limits ∷ more) (x ∷ xs) [] h k = All-nil (IsStart p cuts)
  starts-lawful total (limits ∷ more) (x ∷ xs) (one ∷ chosen) h k =
      one_start (is_open x.node && one) refl (starts-lawful total (limits_below limits x.node ++ more) xs chosen (below (IsRatedRecord p cuts cost) p limits more x.node (nodes_of xs) h.1) (children-lawful total limits more x.node h.0 k.0 k.1))
    where
      one_start : (b : Bool) → (is_open x.node && one) ≡ b → All (IsStart p cuts) (starts_at (limits_below limits x.node ++ more) xs chosen)
          → All (IsStart p cuts) (start_if b limits x.node ++ starts_at (limits_below limits x.node ++ more) xs chosen)
      one_start false is rest = rest
      one_start true is rest =
          let same = open-is x.node (first (is_open x.node) one is) in
          All-cons (IsStart p cuts) (record { limits = limits; prices = numbers_of x.node }) (starts_at (limits_below limits x.node ++ more) xs chosen) (k.0, subst (IsRatedRecord p cuts cost (region_by p limits)) same h.0) rest

-- at the root no limit is above
pub root-lawful : (p : Parts) → AreLawfulLimits p []
root-lawful p = (All-nil (IsLimitOf p), AreRanges-whole p)

-- there are no more starts than are chosen
pub starts-few : (lss : List (List Limit)) (xs : List BoundedRecord) (chosen : List Bool) → length (starts_at lss xs chosen) ≤ count_by (λ (one : Bool). one) chosen
starts-few [] xs chosen = omega arith
starts-few (limits ∷ more) [] chosen = omega arith
starts-few (limits ∷ more) (x ∷ xs) [] = omega arith
starts-few (limits ∷ more_limits) (x ∷ xs) (one ∷ chosen) = by (is_open x.node) one (starts-few (limits_below limits x.node ++ more_limits) xs chosen)
  where
    by : (a b : Bool) → length (starts_at (limits_below limits x.node ++ more_limits) xs chosen) ≤ count_by (λ (c : Bool). c) chosen
        → length (start_if (a && b) limits x.node ++ starts_at (limits_below limits x.node ++ more_limits) xs chosen) ≤ count_by (λ (c : Bool). c) (b ∷ chosen)
    by false false rest = let more : count_by (λ (c : Bool). c) (false ∷ chosen) ≡ 0 + count_by (λ (c : Bool). c) chosen = sum_by-cons _ false chosen in omega (arith, rest, more)
    by false true rest = let more : count_by (λ (c : Bool). c) (true ∷ chosen) ≡ 1 + count_by (λ (c : Bool). c) chosen = sum_by-cons _ true chosen in omega (arith, rest, more)
    by true false rest = let more : count_by (λ (c : Bool). c) (false ∷ chosen) ≡ 0 + count_by (λ (c : Bool). c) chosen = sum_by-cons _ false chosen in omega (arith, rest, more)
    by true true rest =
        let more : count_by (λ (c : Bool). c) (true ∷ chosen) ≡ 1 + count_by (λ (c : Bool). c) chosen = sum_by-cons _ true chosen in
        let longer : length (start_if true limits x.node ++ starts_at (limits_below limits x.node ++ more_limits) xs chosen) ≡ suc (length (starts_at (limits_below limits x.node ++ more_limits) xs chosen)) = refl in
        omega (arith, rest, more, longer)

-- in a plan that fits, each start has so many numbers
starts-numbers : (count numbers : ℕ) (lss : List (List Limit)) (xs : List BoundedRecord) (chosen : List Bool) → All (FitsRecord count numbers) (nodes_of xs) → All (λ (start : Start). length start.prices ≡ numbers) (starts_at lss xs chosen)
starts-numbers count numbers [] xs chosen fits = All-nil (λ (start : Start). length start.prices ≡ numbers)
starts-numbers count numbers (limits ∷ more) [] chosen fits = All-nil (λ (start : Start). length start.prices ≡ numbers)
starts-numbers count numbers (limits ∷ more) (x ∷ xs) [] fits = All-nil (λ (start : Start). length start.prices ≡ numbers)
starts-numbers count numbers (limits ∷ more) (x ∷ xs) (one ∷ chosen) fits =
    one_start (is_open x.node && one) refl (starts-numbers count numbers (limits_below limits x.node ++ more) xs chosen (All-tail (FitsRecord count numbers) x.node (nodes_of xs) fits))
  where
    one_start : (b : Bool) → (is_open x.node && one) ≡ b → All (λ (start : Start). length start.prices ≡ numbers) (starts_at (limits_below limits x.node ++ more) xs chosen)
        → All (λ (start : Start). length start.prices ≡ numbers) (start_if b limits x.node ++ starts_at (limits_below limits x.node ++ more) xs chosen)
    one_start false is rest = rest
    one_start true is rest =
        let same = open-is x.node (first (is_open x.node) one is) in
        All-cons (λ (start : Start). length start.prices ≡ numbers) (record { limits = limits; prices = numbers_of x.node }) (starts_at (limits_below limits x.node ++ more) xs chosen)
        (subst (FitsRecord count numbers) same (All-head (FitsRecord count numbers) x.node (nodes_of xs) fits)) rest

-- one for each place and one for each cut
pub starts-sized : (p : Parts) (plan : Plan) (xs : List BoundedRecord) (chosen : List Bool) → HasSizes p plan → IsSpellable plan → nodes_of xs ≡ plan.tree
    → All (λ (start : Start). length start.prices ≡ places p + length plan.cuts) (starts_of xs chosen)
starts-sized p plan xs chosen sizes fits is =
    let same : numbers_in plan ≡ places p + length plan.cuts = ap₂ (λ (both : Bool) (links : ℕ). places_in both links + length plan.cuts) sizes.both sizes.links in
    subst (λ (numbers : ℕ). All (λ (start : Start). length start.prices ≡ numbers) (starts_of xs chosen)) same
    (starts-numbers plan.nodes (numbers_in plan) ([] ∷ []) xs chosen (subst (All (FitsRecord plan.nodes (numbers_in plan))) (sym is) fits.records.each))
