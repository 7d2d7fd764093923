-- Whole trees in place of leaves.
use Rattle.std.proofs.Common.{◌≡◌, ℕ, List, [], ◌∷◌, ◌++◌, Option, true, false, inl, inr, sym, subst}
use Rattle.std.specs.Prelude.{IsTrue}
use Rattle.plan_base.specs.declared.parts.Parts.{Parts}
use Rattle.proof_tree.specs.Regions.{Region}
use Rattle.proof_tree.specs.Trees.{children_at}
use Rattle.proof_tree.specs.Shapes.{is_leaf}
use Rattle.proof_tree.specs.declared.cuts.Cut.{Cut}
use Rattle.proof_tree.specs.RatedTrees.{AreRatedTrees}
use Rattle.proof_tree.specs.declared.tree.TreeNode.{TreeNode}
use Rattle.proof_tree.specs.declared.tree.TreeNode.TheVariants.{Split, Loads, Leaf}
use Rattle.plan_merge.specs.Growing.{IsReplaced, AreReplaced, joined}

module _ (p : Parts) (cuts : List Cut) (cost : Option ℕ) where
  -- trees, and behind them others
  pub trees-append : (gs hs : List Region) (nodes more : List TreeNode) → AreRatedTrees p cuts cost gs nodes → AreRatedTrees p cuts cost hs more → AreRatedTrees p cuts cost (gs ++ hs) (nodes ++ more)
  trees-append [] hs [] more h k = k
  trees-append [] hs (node ∷ nodes) more h k = absurd h
  trees-append (g ∷ gs) hs [] more h k = absurd h
  trees-append (g ∷ gs) hs (Leaf evidence ∷ nodes) more h k = (h.0, trees-append gs hs nodes more h.1 k)
  trees-append (g ∷ gs) hs (Split id at left right ∷ nodes) more h k = (h.0, trees-append (children_at g (Split id at left right) ++ gs) hs nodes more h.1 k)
  trees-append (g ∷ gs) hs (Loads place load ∷ nodes) more h k = (h.0, trees-append (children_at g (Loads place load) ++ gs) hs nodes more h.1 k)

  -- one record at its region, with trees behind it
  one_replaced : (g : Region) (gs : List Region) (node : TreeNode) (sub more : List TreeNode) → AreRatedTrees p cuts cost (g ∷ gs) (node ∷ more) → IsReplaced p cuts cost g node sub
      → (IsTrue (is_leaf node) → AreRatedTrees p cuts cost gs more) → AreRatedTrees p cuts cost (g ∷ gs) (sub ++ more)
  one_replaced g gs node sub more with_node (inl same) leaf = subst (λ (s : List TreeNode). AreRatedTrees p cuts cost (g ∷ gs) (s ++ more)) (sym same) with_node
  one_replaced g gs node sub more with_node (inr both) leaf = trees-append (g ∷ []) gs sub more both.1 (leaf both.0)

  -- a split stays, a leaf stays or has a tree in its place
  pub grafted : (gs : List Region) (nodes : List TreeNode) (subs : List (List TreeNode)) → AreRatedTrees p cuts cost gs nodes → AreReplaced p cuts cost gs nodes subs → AreRatedTrees p cuts cost gs (joined subs)
  grafted [] [] [] h r = tt
  grafted [] [] (sub ∷ subs) h r = absurd r
  grafted [] (node ∷ nodes) subs h r = absurd h
  grafted (g ∷ gs) [] subs h r = absurd h
  grafted (g ∷ gs) (node ∷ nodes) [] h r = absurd r
  grafted (g ∷ gs) (Leaf evidence ∷ nodes) (sub ∷ subs) h r =
      let more = grafted gs nodes subs h.1 r.1 in
      one_replaced g gs (Leaf evidence) sub (joined subs) (h.0, more) r.0 (λ is. more)
  grafted (g ∷ gs) (Split id at left right ∷ nodes) (sub ∷ subs) h r =
      let more = grafted (children_at g (Split id at left right) ++ gs) nodes subs h.1 r.1 in
      one_replaced g gs (Split id at left right) sub (joined subs) (h.0, more) r.0 (λ is. absurd (let bad : false ≡ true = is in cc))
  grafted (g ∷ gs) (Loads place load ∷ nodes) (sub ∷ subs) h r =
      let more = grafted (children_at g (Loads place load) ++ gs) nodes subs h.1 r.1 in
      one_replaced g gs (Loads place load) sub (joined subs) (h.0, more) r.0 (λ is. absurd (let bad : false ≡ true = is in cc))
