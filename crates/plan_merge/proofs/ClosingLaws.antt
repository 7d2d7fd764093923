-- Open leaves that are closed by their own numbers.
use Rattle.std.proofs.Common.{◌≡◌, ℕ, List, [], ◌∷◌, ◌++◌, Option, Some, None, Bool, true, false, refl, arith, subst, sym, ℤ}
use Rattle.std.specs.Prelude.{◌&&◌, if◌then◌else◌, pos, ◌+ℤ◌, ◌<ℤ◌, int_lt}
use Rattle.std.proofs.lemmas.Int.{ints}
use Rattle.plan_base.specs.declared.parts.Parts.{Parts}
use Rattle.link_steps.specs.Unit.{IsUnit}
use Rattle.proof_tree.specs.declared.cuts.Cut.{Cut as LoadCut}
use Rattle.proof_tree.specs.declared.tree.Evidence.TheVariants.{Bound, Routed, Overfull, Cut, Far, Crowd, Open}
use Rattle.proof_tree.specs.declared.tree.TreeNode.{TreeNode}
use Rattle.proof_tree.specs.declared.tree.TreeNode.TheVariants.{Split, Loads, Leaf}
use Rattle.proof_tree.specs.Regions.{Region}
use Rattle.proof_tree.specs.Trees.{children_at}
use Rattle.proof_tree.specs.Plans.{is_open}
use Rattle.proof_tree.specs.RatedEvidence.{HasRatedEvidence, IsBoundAt}
use Rattle.proof_tree.specs.RatedTrees.{IsRatedRecord}
use Rattle.plan_merge.specs.declared.bounded_record.BoundedRecord.{BoundedRecord}
use Rattle.plan_merge.specs.Walks.{nodes_of, numbers_of, EachAt, EachBoundedAt, IsBoundBeside, IsAbove}
use Rattle.plan_merge.specs.Closing.{is_above, closed}

-- a record that is closed or not has the children of the one before
kept : (g : Region) (node : TreeNode) (b : Bool) → (b ≡ true → is_open node ≡ true) → children_at g (if b then Leaf (Bound (numbers_of node)) else node) ≡ children_at g node
kept g node false opens = refl
kept g (Leaf evidence) true opens = refl
kept g (Split id at left right) true opens = absurd (let bad : false ≡ true = opens refl in cc)
kept g (Loads place load) true opens = absurd (let bad : false ≡ true = opens refl in cc)

first : (a b : Bool) → (a && b) ≡ true → a ≡ true
first true b h = refl
first false b h = h

module _ (p : Parts) (cuts : List LoadCut) where
  -- a leaf with a bound above the cost less the unit
  pub closed-leaf : (old : Option ℕ) (cost unit : ℕ) (g : Region) (numbers : List ℕ) (bound : ℤ) → HasRatedEvidence p cuts old g (Open numbers) → IsBoundAt p cuts g numbers bound → IsUnit p unit
      → pos cost <ℤ (bound +ℤ pos unit) → HasRatedEvidence p cuts (Some cost) g (Bound numbers)
  closed-leaf old cost unit g numbers bound lawful is_bound is_unit enough = record { lawful = lawful; bound = bound; is_bound = is_bound; unit = unit; is_unit = is_unit; enough = enough }

  lt-true : (v w : ℤ) → int_lt v w ≡ true → v <ℤ w
  lt-true v w h = grind (arith, ints)

  -- one record
  module _ (cost unit : ℕ) (is_unit : IsUnit p unit) where
    here-valid : (g : Region) (beside : Option ℤ) (node : TreeNode) → IsBoundBeside p cuts g beside node → IsRatedRecord p cuts (Some cost) g node
        → (b : Bool) → (is_open node && is_above cost unit beside) ≡ b → IsRatedRecord p cuts (Some cost) g (if b then Leaf (Bound (numbers_of node)) else node)
    here-valid g beside node low h false is = h
    here-valid g None (Leaf (Open numbers)) low h true is = absurd (let bad : false ≡ true = is in cc)
    here-valid g (Some bound) (Leaf (Open numbers)) low h true is = closed-leaf (Some cost) cost unit g numbers bound h low is_unit (lt-true (pos cost) (bound +ℤ pos unit) is)
    here-valid g beside (Leaf (Bound numbers)) low h true is = absurd (let bad : false ≡ true = is in cc)
    here-valid g beside (Leaf Routed) low h true is = absurd (let bad : false ≡ true = is in cc)
    here-valid g beside (Leaf (Overfull link)) low h true is = absurd (let bad : false ≡ true = is in cc)
    here-valid g beside (Leaf (Cut demand reached)) low h true is = absurd (let bad : false ≡ true = is in cc)
    here-valid g beside (Leaf (Far demand)) low h true is = absurd (let bad : false ≡ true = is in cc)
    here-valid g beside (Leaf (Crowd prices)) low h true is = absurd (let bad : false ≡ true = is in cc)
    here-valid g beside (Split id at left right) low h true is = absurd (let bad : false ≡ true = is in cc)
    here-valid g beside (Loads place load) low h true is = absurd (let bad : false ≡ true = is in cc)

    -- a valid tree
    pub closed-valid : (gs : List Region) (xs : List BoundedRecord) → EachBoundedAt (λ g x. IsBoundBeside p cuts g x.bound x.node) gs xs → EachAt (IsRatedRecord p cuts (Some cost)) gs (nodes_of xs)
        → EachAt (IsRatedRecord p cuts (Some cost)) gs (closed cost unit xs)
    closed-valid [] [] low h = tt
    closed-valid [] (x ∷ xs) low h = absurd h
    closed-valid (g ∷ gs) [] low h = absurd h
    closed-valid (g ∷ gs) (x ∷ xs) low h = (
      here-valid g x.bound x.node low.0 h.0 (is_open x.node && is_above cost unit x.bound) refl,
      subst (λ (children : List Region). EachAt (IsRatedRecord p cuts (Some cost)) (children ++ gs) (closed cost unit xs)) (sym (kept g x.node (is_open x.node && is_above cost unit x.bound) (first (is_open x.node) (is_above cost unit x.bound)))) (closed-valid (children_at g x.node ++ gs) xs low.1 h.1),
    )

  -- bounds of the leaves that stay open
  module _ (cost unit : ℕ) (least : ℤ) where
    here-above : (g : Region) (node : TreeNode) (b : Bool) → IsAbove p cuts least g node → IsAbove p cuts least g (if b then Leaf (Bound (numbers_of node)) else node)
    here-above g node false h = h
    here-above g node true h = λ bound is. absurd is

    pub closed-above : (gs : List Region) (xs : List BoundedRecord) → EachAt (IsAbove p cuts least) gs (nodes_of xs) → EachAt (IsAbove p cuts least) gs (closed cost unit xs)
    closed-above [] [] h = tt
    closed-above [] (x ∷ xs) h = absurd h
    closed-above (g ∷ gs) [] h = absurd h
    closed-above (g ∷ gs) (x ∷ xs) h = (
      here-above g x.node (is_open x.node && is_above cost unit x.bound) h.0,
      subst (λ (children : List Region). EachAt (IsAbove p cuts least) (children ++ gs) (closed cost unit xs))
          (sym (kept g x.node (is_open x.node && is_above cost unit x.bound) (first (is_open x.node) (is_above cost unit x.bound)))) (closed-above (children_at g x.node ++ gs) xs h.1),
    )
