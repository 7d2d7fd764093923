-- Trees one after the other: the first ones, those behind them, and both together.
use Rattle.std.proofs.Common.{ℕ, List, [], ◌∷◌, ◌++◌, take, drop, length, Option}
use Rattle.plan_base.specs.declared.parts.Parts.{Parts}
use Rattle.proof_tree.specs.Regions.{Region}
use Rattle.proof_tree.specs.Trees.{children_at}
use Rattle.proof_tree.specs.declared.cuts.Cut.{Cut}
use Rattle.proof_tree.specs.RatedTrees.{AreRatedTrees, IsRatedRecord}
use Rattle.proof_tree.specs.declared.tree.TreeNode.{TreeNode}
use Rattle.proof_tree.specs.declared.tree.TreeNode.TheVariants.{Split, Loads, Leaf}
use Rattle.plan_merge.specs.declared.bounded_record.BoundedRecord.{BoundedRecord}
use Rattle.plan_merge.specs.Walks.{nodes_of, EachAt, EachBoundedAt}
use Rattle.plan_merge.specs.Merging.{trees_behind, trees_length}

module _ (Q : Region → BoundedRecord → Type 0) where
  -- the first trees are those of the first regions
  pub each-front : (gs hs : List Region) (xs : List BoundedRecord) → EachBoundedAt Q (gs ++ hs) xs → EachBoundedAt Q gs (take (trees_length (length gs) xs) xs)
  each-front [] hs xs h = tt
  each-front (g ∷ gs) hs [] h = absurd h
  each-front (g ∷ gs) hs (x ∷ xs) h = (h.0, by_kind (λ more v. each-front more hs xs v) x.node h.1)
    where
      by_kind : ((more : List Region) → EachBoundedAt Q (more ++ hs) xs → EachBoundedAt Q more (take (trees_length (length more) xs) xs))
          → (node : TreeNode) → EachBoundedAt Q (children_at g node ++ (gs ++ hs)) xs → EachBoundedAt Q (children_at g node ++ gs) (take (trees_length (trees_behind (length gs) node) xs) xs)
      by_kind below (Leaf evidence) v = below gs v
      by_kind below (Split id at left right) v = below (children_at g (Split id at left right) ++ gs) v
      by_kind below (Loads place load) v = below (children_at g (Loads place load) ++ gs) v

  -- those behind them are those of the others
  pub each-behind : (gs hs : List Region) (xs : List BoundedRecord) → EachBoundedAt Q (gs ++ hs) xs → EachBoundedAt Q hs (drop (trees_length (length gs) xs) xs)
  each-behind [] hs xs h = h
  each-behind (g ∷ gs) hs [] h = absurd h
  each-behind (g ∷ gs) hs (x ∷ xs) h = by_kind (λ more v. each-behind more hs xs v) x.node h.1
    where
      by_kind : ((more : List Region) → EachBoundedAt Q (more ++ hs) xs → EachBoundedAt Q hs (drop (trees_length (length more) xs) xs))
          → (node : TreeNode) → EachBoundedAt Q (children_at g node ++ (gs ++ hs)) xs → EachBoundedAt Q hs (drop (trees_length (trees_behind (length gs) node) xs) xs)
      by_kind below (Leaf evidence) v = below gs v
      by_kind below (Split id at left right) v = below (children_at g (Split id at left right) ++ gs) v
      by_kind below (Loads place load) v = below (children_at g (Loads place load) ++ gs) v

  -- both together are those of all
  pub each-append : (gs hs : List Region) (xs ys : List BoundedRecord) → EachBoundedAt Q gs xs → EachBoundedAt Q hs ys → EachBoundedAt Q (gs ++ hs) (xs ++ ys)
  each-append [] hs [] ys h k = k
  each-append [] hs (x ∷ xs) ys h k = absurd h
  each-append (g ∷ gs) hs [] ys h k = absurd h
  each-append (g ∷ gs) hs (x ∷ xs) ys h k = (h.0, by_kind (λ more v. each-append more hs xs ys v k) x.node h.1)
    where
      by_kind : ((more : List Region) → EachBoundedAt Q more xs → EachBoundedAt Q (more ++ hs) (xs ++ ys)) → (node : TreeNode) → EachBoundedAt Q (children_at g node ++ gs) xs → EachBoundedAt Q (children_at g node ++ (gs ++ hs)) (xs ++ ys)
      by_kind below (Leaf evidence) v = below gs v
      by_kind below (Split id at left right) v = below (children_at g (Split id at left right) ++ gs) v
      by_kind below (Loads place load) v = below (children_at g (Loads place load) ++ gs) v

-- two things that hold of each record
pub each-both : (Q R : Region → BoundedRecord → Type 0) (gs : List Region) (xs : List BoundedRecord) → EachBoundedAt Q gs xs → EachBoundedAt R gs xs → EachBoundedAt (λ g x. Q g x × R g x) gs xs
each-both Q R [] [] h k = tt
each-both Q R [] (x ∷ xs) h k = absurd h
each-both Q R (g ∷ gs) [] h k = absurd h
each-both Q R (g ∷ gs) (x ∷ xs) h k = ((h.0, k.0), each-both Q R (children_at g x.node ++ gs) xs h.1 k.1)

pub each-weaker : (Q R : Region → BoundedRecord → Type 0) → ((g : Region) (x : BoundedRecord) → Q g x → R g x) → (gs : List Region) (xs : List BoundedRecord) → EachBoundedAt Q gs xs → EachBoundedAt R gs xs
each-weaker Q R weaker [] [] h = tt
each-weaker Q R weaker [] (x ∷ xs) h = absurd h
each-weaker Q R weaker (g ∷ gs) [] h = absurd h
each-weaker Q R weaker (g ∷ gs) (x ∷ xs) h = (weaker g x h.0, each-weaker Q R weaker (children_at g x.node ++ gs) xs h.1)

-- what is so of records with bounds beside them is so of the records
pub each-from_nodes : (Q : Region → TreeNode → Type 0) (gs : List Region) (xs : List BoundedRecord) → EachAt Q gs (nodes_of xs) → EachBoundedAt (λ g x. Q g x.node) gs xs
each-from_nodes Q [] [] h = tt
each-from_nodes Q [] (x ∷ xs) h = absurd h
each-from_nodes Q (g ∷ gs) [] h = absurd h
each-from_nodes Q (g ∷ gs) (x ∷ xs) h = (h.0, each-from_nodes Q (children_at g x.node ++ gs) xs h.1)

pub nodes-from_each : (Q : Region → TreeNode → Type 0) (gs : List Region) (xs : List BoundedRecord) → EachBoundedAt (λ g x. Q g x.node) gs xs → EachAt Q gs (nodes_of xs)
nodes-from_each Q [] [] h = tt
nodes-from_each Q [] (x ∷ xs) h = absurd h
nodes-from_each Q (g ∷ gs) [] h = absurd h
nodes-from_each Q (g ∷ gs) (x ∷ xs) h = (h.0, nodes-from_each Q (children_at g x.node ++ gs) xs h.1)

-- a valid tree is one whose records are valid, each at its region
module _ (p : Parts) (cuts : List Cut) (cost : Option ℕ) where
  pub each-from_trees : (gs : List Region) (nodes : List TreeNode) → AreRatedTrees p cuts cost gs nodes → EachAt (IsRatedRecord p cuts cost) gs nodes
  each-from_trees [] [] h = tt
  each-from_trees [] (node ∷ nodes) h = absurd h
  each-from_trees (g ∷ gs) [] h = absurd h
  each-from_trees (g ∷ gs) (node ∷ nodes) h = (h.0, each-from_trees (children_at g node ++ gs) nodes h.1)

  pub trees-from_each : (gs : List Region) (nodes : List TreeNode) → EachAt (IsRatedRecord p cuts cost) gs nodes → AreRatedTrees p cuts cost gs nodes
  trees-from_each [] [] h = tt
  trees-from_each [] (node ∷ nodes) h = absurd h
  trees-from_each (g ∷ gs) [] h = absurd h
  trees-from_each (g ∷ gs) (node ∷ nodes) h = (h.0, trees-from_each (children_at g node ++ gs) nodes h.1)
