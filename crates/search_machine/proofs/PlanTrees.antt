-- The records of a state's tree are one whole tree, and each leaf of it has its evidence.
use Rattle.std.proofs.Common.{◌≡◌, ℕ, zero, suc, ◌+◌, ◌<◌, ◌≤◌, List, [], ◌∷◌, ◌++◌, length, Option, Some, slice_get, sym, ap, subst, arith, append_assoc}
use Rattle.std.proofs.lemmas.List.{append-nil}
use Rattle.std.proofs.lemmas.Option.{slice_get_within}
use Rattle.plan_base.specs.declared.parts.Parts.{Parts}
use Rattle.proof_tree.specs.declared.cuts.Cut.{Cut}
use Rattle.proof_tree.specs.RatedEvidence.{HasRatedEvidence}
use Rattle.proof_tree.specs.declared.tree.Evidence.TheVariants as evidence
use Rattle.proof_tree.specs.declared.tree.TreeNode.{TreeNode}
use Rattle.proof_tree.specs.declared.tree.TreeNode.TheVariants.{Leaf}
use Rattle.proof_tree.specs.Regions.{Region, whole}
use Rattle.proof_tree.specs.RatedTrees.{AreRatedTrees, IsRatedTree}
use Rattle.branch_tree.specs.Records.{split_record}
use Rattle.branch_tree.specs.declared.node.Divider.TheVariants as divider
use Rattle.search_machine.specs.State.{Divider, left_limit, right_limit, narrowed, Fate, Undone, ClosedBy, DividedBy, Node, State, region_of, region_by, cutoff_of, kept_prices}
use Rattle.search_machine.specs.Nodes.{IsSoundNode, HasSoundFate, IsSoundFate, IsSoundDivider}
use Rattle.search_machine.specs.Family.{HasChildrenBy}
use Rattle.search_machine.specs.Soundness.{IsSound}
use Rattle.search_machine.specs.PlanOf.{records_by, records_in, records_at, tree_of, SplitsPart, PartsPaths}
use Rattle.search_machine.proofs.Lists.{All-at}
use Rattle.search_machine.proofs.Dividing.{kept_by-sound}
use Rattle.search_machine.proofs.Rising.{child-region}

-- trees that stand at these regions: whole and valid, and each split parts two paths or two steps
abbrev AreSoundTrees : Parts → List Cut → Option ℕ → List Region → List TreeNode → Type 0
AreSoundTrees p cuts cost gs records = AreRatedTrees p cuts cost gs records × SplitsPart p gs records

leaf-sound : (p : Parts) (cuts : List Cut) (cost : Option ℕ) (g : Region) (gs : List Region) (found : evidence.the_data) (rest : List TreeNode)
    → HasRatedEvidence p cuts cost g found → AreSoundTrees p cuts cost gs rest → AreSoundTrees p cuts cost (g ∷ gs) (Leaf found ∷ rest)
leaf-sound p cuts cost g gs found rest has h = ((has, h.0), (tt, h.1))

split-sound : (p : Parts) (cuts : List Cut) (cost : Option ℕ) (g : Region) (gs : List Region) (by : Divider) (rest : List TreeNode)
    → IsSoundDivider p g by → AreSoundTrees p cuts cost (narrowed g (left_limit by) ∷ (narrowed g (right_limit by) ∷ gs)) rest → AreSoundTrees p cuts cost (g ∷ gs) (split_record by ∷ rest)
split-sound p cuts cost g gs (divider.Arcs d) rest sound h = ((sound.0, h.0), (sound.1, h.1))
split-sound p cuts cost g gs (divider.Load d) rest sound h = ((sound.is_split, h.0), (sound, h.1))

module _ (s : State) (h : IsSound s) where
  abbrev Sound : List Region → List TreeNode → Type 0
  Sound = AreSoundTrees s.problem s.cuts (cutoff_of s)

  -- the subtree at a number, where the depth reaches the end of the list
  records_at-sound : (depth n : ℕ) (node : Node) → slice_get s.nodes n ≡ Some node → length s.nodes ≤ depth + n
      → (gs : List Region) (rest : List TreeNode) → Sound gs rest → Sound (region_of s.problem node ∷ gs) (records_at depth s.nodes n ++ rest)
  records_at-sound zero n node is deep gs rest after = let within = slice_get_within s.nodes n node is in absurd (omega arith)
  records_at-sound (suc depth) n node is deep gs rest after =
      let P : Option Node → Type 0 = λ o. Sound (region_of s.problem node ∷ gs) (records_in (records_at depth s.nodes) o ++ rest) in
      subst P (sym is)
      (by_fate node.fate (All-at (HasSoundFate s.problem s.cuts (cutoff_of s)) s.nodes n node h.fates is) (h.family.children n node is)
      (λ m child at above gs' rest' after'. records_at-sound depth m child at (omega arith) gs' rest' after'))
    where
      k : IsSoundNode s.problem s.cuts node
      k = All-at (IsSoundNode s.problem s.cuts) s.nodes n node h.nodes is

      by_fate : (fate : Fate) → IsSoundFate s.problem s.cuts (cutoff_of s) (region_of s.problem node) fate → HasChildrenBy s.nodes n node fate
          → ((m : ℕ) (child : Node) → slice_get s.nodes m ≡ Some child → n < m → (gs' : List Region) (rest' : List TreeNode) → Sound gs' rest' → Sound (region_of s.problem child ∷ gs') (records_at depth s.nodes m ++ rest'))
          → Sound (region_of s.problem node ∷ gs) (records_by (records_at depth s.nodes) node fate ++ rest)
      by_fate Undone fate children below =
          leaf-sound s.problem s.cuts (cutoff_of s) (region_of s.problem node) gs (evidence.Open (kept_prices node)) rest (kept_by-sound s.problem s.cuts node node.best k.first_prices k.best).lawful after
      by_fate (ClosedBy found) fate children below = leaf-sound s.problem s.cuts (cutoff_of s) (region_of s.problem node) gs found rest fate.1 after
      by_fate (DividedBy d) fate children below =
          let g = region_of s.problem node in
          let left = children.0 in
          let right = children.1 in
          let g_left = narrowed g (left_limit d.by) in
          let g_right = narrowed g (right_limit d.by) in
          let lefts = records_at depth s.nodes d.left_child.0 in
          let rights = records_at depth s.nodes d.right_child.0 in
          let on_right : Sound (g_right ∷ gs) (rights ++ rest) =
          subst (λ (x : Region). Sound (x ∷ gs) (rights ++ rest)) (child-region s.problem node right.1 (right_limit d.by) right.3) (below d.right_child.0 right.1 right.2 right.0 gs rest after) in
          let both : Sound (g_left ∷ (g_right ∷ gs)) (lefts ++ (rights ++ rest)) =
          subst (λ (x : Region). Sound (x ∷ (g_right ∷ gs)) (lefts ++ (rights ++ rest))) (child-region s.problem node left.1 (left_limit d.by) left.3)
          (below d.left_child.0 left.1 left.2 left.0 (g_right ∷ gs) (rights ++ rest) on_right) in
          let Q : List TreeNode → Type 0 = λ x. Sound (g ∷ gs) (split_record d.by ∷ x) in
          subst Q (sym (append_assoc lefts rights rest)) (split-sound s.problem s.cuts (cutoff_of s) g gs d.by (lefts ++ (rights ++ rest)) fate both)

  tree_of-sound : AreSoundTrees s.problem s.cuts (cutoff_of s) (whole s.problem ∷ []) (tree_of s)
  tree_of-sound =
      let f = h.family in
      let none : Sound [] [] = (tt, tt) in
      let all = records_at-sound (length s.nodes) 0 f.root f.is_root (omega arith) [] [] none in
      let root : region_of s.problem f.root ≡ whole s.problem = ap (region_by s.problem) f.root_limits in
      let at_root : Sound (whole s.problem ∷ []) (tree_of s ++ []) = subst (λ (g : Region). Sound (g ∷ []) (tree_of s ++ [])) root all in
      subst (λ (x : List TreeNode). Sound (whole s.problem ∷ []) x) (append-nil (tree_of s)) at_root

  -- the tree of a sound state is one whole tree, and the evidence of each leaf holds
  pub tree_of-valid : IsRatedTree s.problem s.cuts (cutoff_of s) (tree_of s)
  tree_of-valid = tree_of-sound.0

  -- each split in the tree of a sound state parts two paths of its demand, or two steps of its link
  pub tree_of-parts : PartsPaths s.problem (tree_of s)
  tree_of-parts = tree_of-sound.1
