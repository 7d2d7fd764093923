-- What two trees of one region come to, merged.
use Rattle.std.proofs.Common.{◌≡◌, ℕ, zero, suc, ◌≤◌, List, [], ◌∷◌, ◌++◌, drop, length, Option, Bool, true, false, refl, sym, subst, arith}
use Rattle.std.specs.Prelude.{if◌then◌else◌}
use Rattle.plan_base.specs.declared.parts.Parts.{Parts}
use Rattle.proof_tree.specs.Regions.{Region, whole}
use Rattle.proof_tree.specs.Trees.{children_at}
use Rattle.proof_tree.specs.declared.cuts.Cut.{Cut}
use Rattle.proof_tree.specs.RatedTrees.{IsRatedTree, IsRatedRecord}
use Rattle.proof_tree.specs.declared.tree.TreeNode.{TreeNode}
use Rattle.plan_merge.specs.declared.bounded_record.BoundedRecord.{BoundedRecord}
use Rattle.plan_merge.specs.Walks.{nodes_of, EachBoundedAt}
use Rattle.plan_merge.specs.Merging.{trees_behind, trees_length, first_tree, behind_first, same_split, stands, better_of, merged_by, merged}
use Rattle.plan_merge.proofs.Fronts.{each-front, each-behind, each-append, each-from_nodes, nodes-from_each, each-from_trees, trees-from_each}
use Rattle.plan_merge.proofs.Splits.{same_split-same}

le-trans : (a b c : ℕ) → a ≤ b → b ≤ c → a ≤ c
le-trans a b c h k = omega arith

-- what is behind the first tree is shorter by one record at least
pub behind-shorter : (x : BoundedRecord) (xs : List BoundedRecord) → length (behind_first (x ∷ xs)) ≤ length xs
behind-shorter x xs = drop-shorter (trees_length (trees_behind 0 x.node) xs) xs
  where
    drop-shorter : (n : ℕ) (ys : List BoundedRecord) → length (drop n ys) ≤ length ys
    drop-shorter zero ys = omega arith
    drop-shorter (suc n) [] = omega arith
    drop-shorter (suc n) (y ∷ ys) = let shorter = drop-shorter n ys in omega arith

-- what each tree has of its records the merged one has of its own: where both go on, and where one stands
module _ (Q R S : Region → BoundedRecord → Type 0) (same : (g : Region) (x y : BoundedRecord) → x.node ≡ y.node → Q g x → R g y → S g x)
    (pick : (g : Region) (s t : List BoundedRecord) → EachBoundedAt Q (g ∷ []) s → EachBoundedAt R (g ∷ []) t → EachBoundedAt S (g ∷ []) (better_of s t)) where
  abbrev Deeper : ℕ → Type 0
  Deeper n = (hs : List Region) (us vs : List BoundedRecord) → EachBoundedAt Q hs us → EachBoundedAt R hs vs → length us ≤ n → EachBoundedAt S hs (merged_by n us vs)

  both_go_on : (n : ℕ) (g : Region) (gs : List Region) (x y : BoundedRecord) (xs ys : List BoundedRecord) → Deeper n → EachBoundedAt Q (g ∷ gs) (x ∷ xs) → EachBoundedAt R (g ∷ gs) (y ∷ ys) → length xs ≤ n
      → x.node ≡ y.node → EachBoundedAt S (g ∷ gs) (x ∷ merged_by n xs ys)
  both_go_on n g gs x y xs ys deeper h k few is =
      let under = subst (λ (node : TreeNode). EachBoundedAt R (children_at g node ++ gs) ys) (sym is) k.1 in
      (same g x y is h.0 k.0, deeper (children_at g x.node ++ gs) xs ys h.1 under few)

  one_stands : (n : ℕ) (g : Region) (gs : List Region) (x y : BoundedRecord) (xs ys : List BoundedRecord) → Deeper n → EachBoundedAt Q (g ∷ gs) (x ∷ xs) → EachBoundedAt R (g ∷ gs) (y ∷ ys) → length xs ≤ n
      → EachBoundedAt S (g ∷ gs) (better_of (first_tree (x ∷ xs)) (first_tree (y ∷ ys)) ++ merged_by n (behind_first (x ∷ xs)) (behind_first (y ∷ ys)))
  one_stands n g gs x y xs ys deeper h k few =
      let front = pick g (first_tree (x ∷ xs)) (first_tree (y ∷ ys)) (each-front Q (g ∷ []) gs (x ∷ xs) h) (each-front R (g ∷ []) gs (y ∷ ys) k) in
      let fewer = le-trans (length (behind_first (x ∷ xs))) (length xs) n (behind-shorter x xs) few in
      let behind = deeper gs (behind_first (x ∷ xs)) (behind_first (y ∷ ys)) (each-behind Q (g ∷ []) gs (x ∷ xs) h) (each-behind R (g ∷ []) gs (y ∷ ys) k) fewer in
      each-append S (g ∷ []) gs (better_of (first_tree (x ∷ xs)) (first_tree (y ∷ ys))) (merged_by n (behind_first (x ∷ xs)) (behind_first (y ∷ ys))) front behind

  pub merged-each : (n : ℕ) (gs : List Region) (xs ys : List BoundedRecord) → EachBoundedAt Q gs xs → EachBoundedAt R gs ys → length xs ≤ n → EachBoundedAt S gs (merged_by n xs ys)
  merged-each zero [] [] ys h k few = tt
  merged-each zero [] (x ∷ xs) ys h k few = absurd h
  merged-each zero (g ∷ gs) [] ys h k few = absurd h
  merged-each zero (g ∷ gs) (x ∷ xs) ys h k few = absurd (omega arith)
  merged-each (suc n) [] [] ys h k few = tt
  merged-each (suc n) [] (x ∷ xs) ys h k few = absurd h
  merged-each (suc n) (g ∷ gs) [] ys h k few = absurd h
  merged-each (suc n) (g ∷ gs) (x ∷ xs) [] h k few = absurd k
  merged-each (suc n) (g ∷ gs) (x ∷ xs) (y ∷ ys) h k few = by (λ hs us vs h' k' few'. merged-each n hs us vs h' k' few') (omega arith) (same_split x.node y.node) refl
    where
      by : Deeper n → length xs ≤ n → (b : Bool) → same_split x.node y.node ≡ b
          → EachBoundedAt S (g ∷ gs) (if b then (x ∷ merged_by n xs ys) else (better_of (first_tree (x ∷ xs)) (first_tree (y ∷ ys)) ++ merged_by n (behind_first (x ∷ xs)) (behind_first (y ∷ ys))))
      by deeper less true is = both_go_on n g gs x y xs ys deeper h k less (same_split-same x.node y.node is)
      by deeper less false differ = one_stands n g gs x y xs ys deeper h k less

-- the better one of two is one of them
pub better-either : (P : List BoundedRecord → Type 0) (s t : List BoundedRecord) → P s → P t → P (better_of s t)
better-either P s t h k = by (stands s t)
  where
    by : (b : Bool) → P (if b then s else t)
    by true = h
    by false = k

-- two valid trees merged are a valid tree
pub merged-valid : (p : Parts) (cuts : List Cut) (cost : Option ℕ) (one other : List BoundedRecord) → IsRatedTree p cuts cost (nodes_of one) → IsRatedTree p cuts cost (nodes_of other) → IsRatedTree p cuts cost (nodes_of (merged one other))
merged-valid p cuts cost one other h k =
    trees-from_each p cuts cost (whole p ∷ []) (nodes_of (merged one other))
    (nodes-from_each Q (whole p ∷ []) (merged one other)
    (merged-each Valid Valid Valid (λ g x y is hx hy. hx) (λ g s t hs ht. better-either (EachBoundedAt Valid (g ∷ [])) s t hs ht) (length one) (whole p ∷ []) one other
    (each-from_nodes Q (whole p ∷ []) one (each-from_trees p cuts cost (whole p ∷ []) (nodes_of one) h)) (each-from_nodes Q (whole p ∷ []) other (each-from_trees p cuts cost (whole p ∷ []) (nodes_of other) k)) (omega arith)))
  where
    Q : Region → TreeNode → Type 0
    Q = IsRatedRecord p cuts cost

    Valid : Region → BoundedRecord → Type 0
    Valid g x = Q g x.node
