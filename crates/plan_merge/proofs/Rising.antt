-- The least bounds of trees, and what they say of the better one of two.
use Rattle.std.proofs.Common.{◌≡◌, List, [], ◌∷◌, ◌++◌, length, Option, Some, None, Bool, true, false, not, refl, sym, ap, subst, ◌∙◌, arith, ℤ}
use Rattle.std.specs.Prelude.{if◌then◌else◌, ◌&&◌, ◌||◌, ◌≤ℤ◌, ◌<ℤ◌, int_lt, IfSome, nat_le}
use Rattle.std.proofs.lemmas.Int.{ints}
use Rattle.plan_base.specs.declared.parts.Parts.{Parts}
use Rattle.proof_tree.specs.Regions.{Region, whole}
use Rattle.proof_tree.specs.Trees.{children_at}
use Rattle.proof_tree.specs.declared.cuts.Cut.{Cut as LoadCut}
use Rattle.proof_tree.specs.Plans.{IsOpenBound, is_open}
use Rattle.proof_tree.specs.RatedEvidence.{rates_in}
use Rattle.proof_tree.specs.declared.tree.Evidence.{Evidence}
use Rattle.proof_tree.specs.declared.tree.Evidence.TheVariants.{Bound, Routed, Overfull, Cut, Far, Crowd, Open}
use Rattle.proof_tree.specs.declared.tree.TreeNode.{TreeNode}
use Rattle.proof_tree.specs.declared.tree.TreeNode.TheVariants.{Split, Loads, Leaf}
use Rattle.proof_tree.proofs.RatedUniqueness.{rated_bound-unique}
use Rattle.plan_merge.specs.declared.bounded_record.BoundedRecord.{BoundedRecord}
use Rattle.plan_merge.specs.Walks.{nodes_of, EachBoundedAt, IsBoundBeside, HaveTheirBounds, IsAbove, AreAbove}
use Rattle.plan_merge.specs.Merging.{lesser, least_bound, is_no_lower, some_open, examined_of, stands_open, stands_by, stands, better_of, merged}
use Rattle.plan_merge.proofs.Fronts.{each-both, each-from_nodes, nodes-from_each}
use Rattle.plan_merge.proofs.MergeLaws.{merged-each, better-either}

lt-true : (v w : ℤ) → int_lt v w ≡ true → v <ℤ w
lt-true v w h = grind (arith, ints)

lt-false : (v w : ℤ) → int_lt v w ≡ false → w ≤ℤ v
lt-false v w h = grind (arith, ints)

le-le : (u v w : ℤ) → u ≤ℤ v → v ≤ℤ w → u ≤ℤ w
le-le u v w h k = omega (arith, ints)

le-lt : (u v w : ℤ) → u ≤ℤ v → v <ℤ w → u ≤ℤ w
le-lt u v w h k = omega (arith, ints)

module _ (least : ℤ) where
  -- a bound that is there is at least the given one
  abbrev pub AtLeast : Option ℤ → Type 0
  AtLeast low = IfSome low (λ v. least ≤ℤ v)

  pub lesser-both : (a b : Option ℤ) → AtLeast a → AtLeast b → AtLeast (lesser a b)
  lesser-both None b h k = k
  lesser-both (Some u) None h k = h
  lesser-both (Some u) (Some v) h k = by (int_lt v u)
    where
      by : (t : Bool) → least ≤ℤ (if t then v else u)
      by true = k
      by false = h

  pub lesser-first : (a b : Option ℤ) → AtLeast (lesser a b) → AtLeast a
  lesser-first None b h = tt
  lesser-first (Some u) None h = h
  lesser-first (Some u) (Some v) h = by (int_lt v u) refl h
    where
      by : (t : Bool) → int_lt v u ≡ t → least ≤ℤ (if t then v else u) → least ≤ℤ u
      by true is k = le-lt least v u k (lt-true v u is)
      by false is k = k

  pub lesser-second : (a b : Option ℤ) → AtLeast (lesser a b) → AtLeast b
  lesser-second None b h = h
  lesser-second (Some u) None h = tt
  lesser-second (Some u) (Some v) h = by (int_lt v u) refl h
    where
      by : (t : Bool) → int_lt v u ≡ t → least ≤ℤ (if t then v else u) → least ≤ℤ v
      by true is k = k
      by false is k = le-le least u v k (lt-false v u is)

  -- what is no lower than a bound that is at least the given one is so too
  pub no_lower-least : (a b : Option ℤ) → is_no_lower a b ≡ true → AtLeast b → AtLeast a
  no_lower-least None b h k = tt
  no_lower-least (Some u) None h k = absurd (let bad : false ≡ true = h in cc)
  no_lower-least (Some u) (Some v) h k = by (int_lt u v) refl h
    where
      by : (t : Bool) → int_lt u v ≡ t → not t ≡ true → least ≤ℤ u
      by true is bad = absurd (let worse : false ≡ true = bad in cc)
      by false is good = le-le least v u k (lt-false u v is)

  -- of two bounds one is no lower than the other
  pub not_no_lower-least : (a b : Option ℤ) → is_no_lower a b ≡ false → AtLeast a → AtLeast b
  not_no_lower-least None b h k = absurd (let bad : true ≡ false = h in cc)
  not_no_lower-least (Some u) None h k = tt
  not_no_lower-least (Some u) (Some v) h k = by (int_lt u v) refl h
    where
      by : (t : Bool) → int_lt u v ≡ t → not t ≡ false → least ≤ℤ v
      by true is good = le-lt least u v k (lt-true u v is)
      by false is bad = absurd (let worse : true ≡ false = bad in cc)

module _ (p : Parts) (cuts : List LoadCut) where
  open-unique : (g : Region) (found : Evidence) (a b : ℤ) → IsOpenBound p cuts g found a → IsOpenBound p cuts g found b → a ≡ b
  open-unique g (Open numbers) a b h k = rated_bound-unique p cuts g numbers (rates_in p numbers) a b h k
  open-unique g (Bound numbers) a b h k = absurd h
  open-unique g Routed a b h k = absurd h
  open-unique g (Overfull link) a b h k = absurd h
  open-unique g (Cut demand reached) a b h k = absurd h
  open-unique g (Far demand) a b h k = absurd h
  open-unique g (Crowd prices) a b h k = absurd h

  abbrev Low : Region → BoundedRecord → Type 0
  Low g x = IsBoundBeside p cuts g x.bound x.node

  abbrev Above : ℤ → Region → BoundedRecord → Type 0
  Above least g x = IsAbove p cuts least g x.node

  low-at_least : (least : ℤ) (g : Region) (low : Option ℤ) (node : TreeNode) → IsBoundBeside p cuts g low node → IsAbove p cuts least g node → AtLeast least low
  low-at_least least g None node h above = tt
  low-at_least least g (Some v) (Leaf found) h above = above v h
  low-at_least least g (Some v) (Split id at left right) h above = absurd (let bad : Some v ≡ None = h in cc)
  low-at_least least g (Some v) (Loads place load) h above = absurd (let bad : Some v ≡ None = h in cc)

  above-low : (least : ℤ) (g : Region) (low : Option ℤ) (node : TreeNode) → IsBoundBeside p cuts g low node → AtLeast least low → IsAbove p cuts least g node
  above-low least g None (Leaf found) h k = λ bound is. absurd (h bound is)
  above-low least g (Some v) (Leaf found) h k = λ bound is. subst (λ (b : ℤ). least ≤ℤ b) (open-unique g found v bound h is) k
  above-low least g low (Split id at left right) h k = tt
  above-low least g low (Loads place load) h k = tt

  -- where each open leaf's bound is at least the given one, so is the least that is marked
  pub least-at_least : (least : ℤ) (gs : List Region) (xs : List BoundedRecord) → EachBoundedAt Low gs xs → EachBoundedAt (Above least) gs xs → AtLeast least (least_bound xs)
  least-at_least least [] [] h k = tt
  least-at_least least [] (x ∷ xs) h k = absurd h
  least-at_least least (g ∷ gs) [] h k = absurd h
  least-at_least least (g ∷ gs) (x ∷ xs) h k = lesser-both least x.bound (least_bound xs) (low-at_least least g x.bound x.node h.0 k.0) (least-at_least least (children_at g x.node ++ gs) xs h.1 k.1)

  -- and the other way round
  pub above-least : (least : ℤ) (gs : List Region) (xs : List BoundedRecord) → EachBoundedAt Low gs xs → AtLeast least (least_bound xs) → EachBoundedAt (Above least) gs xs
  above-least least [] [] h k = tt
  above-least least [] (x ∷ xs) h k = absurd h
  above-least least (g ∷ gs) [] h k = absurd h
  above-least least (g ∷ gs) (x ∷ xs) h k =
      (above-low least g x.bound x.node h.0 (lesser-first least x.bound (least_bound xs) k), above-least least (children_at g x.node ++ gs) xs h.1 (lesser-second least x.bound (least_bound xs) k))

  or-false : (a b : Bool) → (a || b) ≡ false → (a ≡ false) × (b ≡ false)
  or-false true b h = absurd (let bad : true ≡ false = h in cc)
  or-false false b h = (refl, h)

  closed-low : (g : Region) (low : Option ℤ) (node : TreeNode) → is_open node ≡ false → IsBoundBeside p cuts g low node → low ≡ None
  closed-low g None node closed h = refl
  closed-low g (Some v) (Leaf (Open numbers)) closed h = absurd (let bad : true ≡ false = closed in cc)
  closed-low g (Some v) (Leaf (Bound numbers)) closed h = absurd h
  closed-low g (Some v) (Leaf Routed) closed h = absurd h
  closed-low g (Some v) (Leaf (Overfull link)) closed h = absurd h
  closed-low g (Some v) (Leaf (Cut demand reached)) closed h = absurd h
  closed-low g (Some v) (Leaf (Far demand)) closed h = absurd h
  closed-low g (Some v) (Leaf (Crowd prices)) closed h = absurd h
  closed-low g (Some v) (Split id at left right) closed h = h
  closed-low g (Some v) (Loads place load) closed h = h

  -- a tree without an open leaf has no least bound
  pub closed-none : (gs : List Region) (xs : List BoundedRecord) → EachBoundedAt Low gs xs → some_open xs ≡ false → least_bound xs ≡ None
  closed-none [] [] h closed = refl
  closed-none [] (x ∷ xs) h closed = absurd h
  closed-none (g ∷ gs) [] h closed = absurd h
  closed-none (g ∷ gs) (x ∷ xs) h closed =
      let both = or-false (is_open x.node) (some_open xs) closed in
      ap (λ (low : Option ℤ). lesser low (least_bound xs)) (closed-low g x.bound x.node both.0 h.0) ∙ closed-none (children_at g x.node ++ gs) xs h.1 both.1

  none-at_least : (least : ℤ) (low : Option ℤ) → low ≡ None → AtLeast least low
  none-at_least least None is = tt
  none-at_least least (Some v) is = absurd (let bad : Some v ≡ None = is in cc)

  and-first : (a b : Bool) → (a && b) ≡ true → a ≡ true
  and-first true b h = refl
  and-first false b h = h

  -- where the first of two trees with open leaves stands, its least bound is no lower
  first-stands : (least : ℤ) (s t : List BoundedRecord) → stands_open s t ≡ true → AtLeast least (least_bound t) → AtLeast least (least_bound s)
  first-stands least s t is k =
      no_lower-least least (least_bound s) (least_bound t)
      (and-first (is_no_lower (least_bound s) (least_bound t)) (not (is_no_lower (least_bound t) (least_bound s)) || nat_le (examined_of t) (examined_of s)) is) k

  -- where it does not, that of the second one is no lower
  second-stands : (least : ℤ) (s t : List BoundedRecord) → stands_open s t ≡ false → AtLeast least (least_bound s) → AtLeast least (least_bound t)
  second-stands least s t is k = by (is_no_lower (least_bound s) (least_bound t)) (is_no_lower (least_bound t) (least_bound s)) refl refl is
    where
      by : (a b : Bool) → is_no_lower (least_bound s) (least_bound t) ≡ a → is_no_lower (least_bound t) (least_bound s) ≡ b → (a && (not b || nat_le (examined_of t) (examined_of s))) ≡ false → AtLeast least (least_bound t)
      by false b one other h = not_no_lower-least least (least_bound s) (least_bound t) one k
      by true true one other h = no_lower-least least (least_bound t) (least_bound s) other k
      by true false one other h = absurd (let bad : true ≡ false = h in cc)

  pick-first : (least : ℤ) (g : Region) (s t : List BoundedRecord) → EachBoundedAt Low (g ∷ []) s → EachBoundedAt (Above least) (g ∷ []) s → EachBoundedAt Low (g ∷ []) t → EachBoundedAt (Above least) (g ∷ []) (better_of s t)
  pick-first least g s t low above other = by (some_open s) (some_open t) refl refl (stands s t) refl
    where
      low_of_s : AtLeast least (least_bound s)
      low_of_s = least-at_least least (g ∷ []) s low above

      t_above : AtLeast least (least_bound t) → EachBoundedAt (Above least) (g ∷ []) t
      t_above k = above-least least (g ∷ []) t other k

      chosen : (c d : Bool) → some_open t ≡ d → stands_by c d s t ≡ false → AtLeast least (least_bound t)
      chosen c false closed is = none-at_least least (least_bound t) (closed-none (g ∷ []) t other closed)
      chosen true true closed is = second-stands least s t is low_of_s
      chosen false true closed is = absurd (let bad : true ≡ false = is in cc)

      by : (c d : Bool) → some_open s ≡ c → some_open t ≡ d → (b : Bool) → stands s t ≡ b → EachBoundedAt (Above least) (g ∷ []) (if b then s else t)
      by c d is_c is_d true is = above
      by c d is_c is_d false is = t_above (chosen (some_open s) (some_open t) refl is)

  pick-second : (least : ℤ) (g : Region) (s t : List BoundedRecord) → EachBoundedAt Low (g ∷ []) s → EachBoundedAt Low (g ∷ []) t → EachBoundedAt (Above least) (g ∷ []) t → EachBoundedAt (Above least) (g ∷ []) (better_of s t)
  pick-second least g s t low other above = by (stands s t) refl
    where
      low_of_t : AtLeast least (least_bound t)
      low_of_t = least-at_least least (g ∷ []) t other above

      chosen : (c d : Bool) → some_open s ≡ c → stands_by c d s t ≡ true → AtLeast least (least_bound s)
      chosen false d closed is = none-at_least least (least_bound s) (closed-none (g ∷ []) s low closed)
      chosen true true closed is = first-stands least s t is low_of_t
      chosen true false closed is = absurd (let bad : false ≡ true = is in cc)

      by : (b : Bool) → stands s t ≡ b → EachBoundedAt (Above least) (g ∷ []) (if b then s else t)
      by true is = above-least least (g ∷ []) s low (chosen (some_open s) (some_open t) refl is)
      by false is = above

  split-both : (Q R : Region → BoundedRecord → Type 0) (gs : List Region) (xs : List BoundedRecord) → EachBoundedAt (λ g x. Q g x × R g x) gs xs → EachBoundedAt Q gs xs × EachBoundedAt R gs xs
  split-both Q R [] [] h = (tt, tt)
  split-both Q R [] (x ∷ xs) h = absurd h
  split-both Q R (g ∷ gs) [] h = absurd h
  split-both Q R (g ∷ gs) (x ∷ xs) h = let more = split-both Q R (children_at g x.node ++ gs) xs h.1 in ((h.0.0, more.0), (h.0.1, more.1))

  -- the bounds of the merged tree are at least what those of the first one are
  pub merged-above_first : (least : ℤ) (one other : List BoundedRecord) → HaveTheirBounds p cuts (whole p ∷ []) one → HaveTheirBounds p cuts (whole p ∷ []) other → AreAbove p cuts least (whole p ∷ []) (nodes_of one)
      → AreAbove p cuts least (whole p ∷ []) (nodes_of (merged one other))
  merged-above_first least one other low low' above =
      nodes-from_each (IsAbove p cuts least) (whole p ∷ []) (merged one other)
      (merged-each (λ g x. Low g x × Above least g x) Low (Above least) (λ g x y is hx hy. hx.1)
      (λ g s t hs ht. let both = split-both Low (Above least) (g ∷ []) s hs in pick-first least g s t both.0 both.1 ht)
      (length one) (whole p ∷ []) one other (each-both Low (Above least) (whole p ∷ []) one low (each-from_nodes (IsAbove p cuts least) (whole p ∷ []) one above)) low' (omega arith))

  -- and what those of the second one are
  pub merged-above_second : (least : ℤ) (one other : List BoundedRecord) → HaveTheirBounds p cuts (whole p ∷ []) one → HaveTheirBounds p cuts (whole p ∷ []) other → AreAbove p cuts least (whole p ∷ []) (nodes_of other)
      → AreAbove p cuts least (whole p ∷ []) (nodes_of (merged one other))
  merged-above_second least one other low low' above =
      nodes-from_each (IsAbove p cuts least) (whole p ∷ []) (merged one other)
      (merged-each Low (λ g x. Low g x × Above least g x) (Above least) (λ g x y is hx hy. subst (λ (node : TreeNode). IsAbove p cuts least g node) (sym is) hy.1)
      (λ g s t hs ht. let both = split-both Low (Above least) (g ∷ []) t ht in pick-second least g s t hs both.0 both.1)
      (length one) (whole p ∷ []) one other low (each-both Low (Above least) (whole p ∷ []) other low' (each-from_nodes (IsAbove p cuts least) (whole p ∷ []) other above)) (omega arith))

  -- beside the merged records stand their bounds
  pub merged-bounds : (one other : List BoundedRecord) → HaveTheirBounds p cuts (whole p ∷ []) one → HaveTheirBounds p cuts (whole p ∷ []) other → HaveTheirBounds p cuts (whole p ∷ []) (merged one other)
  merged-bounds one other low low' =
      merged-each Low Low Low (λ g x y is hx hy. hx) (λ g s t hs ht. better-either (EachBoundedAt Low (g ∷ [])) s t hs ht) (length one) (whole p ∷ []) one other low low' (omega arith)
