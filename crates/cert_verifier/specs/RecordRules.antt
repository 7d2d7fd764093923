-- The records of a tree, in preorder, each with the region where it stands.
use Rattle.std.specs.Prelude.{ℕ, suc, ◌≡◌, false, List, [], ◌∷◌, ◌++◌, Option, None}
use Rattle.plan_base.specs.declared.parts.Parts.{Parts}
use Rattle.proof_tree.specs.declared.tree.TreeNode.{TreeNode}
use Rattle.proof_tree.specs.declared.tree.TreeNode.TheVariants.{Split, Loads, Leaf}
use Rattle.proof_tree.specs.declared.plan.Plan.{Plan}
use Rattle.proof_tree.specs.Regions.{Region, whole}
use Rattle.proof_tree.specs.Trees.{children_at}
use Rattle.proof_tree.specs.Plans.{stated_cost}
use Rattle.cert_verifier.specs.declared.rejected.Rejected.{Rejected}
use Rattle.cert_verifier.specs.declared.rejected.Rejected.TheVariants.{Kind}
use Rattle.cert_verifier.specs.Rules.{unless, ◌then_by◌}
use Rattle.cert_verifier.specs.Kinds.{is_wrong_kind}
use Rattle.cert_verifier.specs.SplitRules.{SplitFinds, LoadsFind}
use Rattle.cert_verifier.specs.LeafRules.{LeafFinds}

-- the plan may have a record of this kind
abbrev pub MayHave : Plan → TreeNode → Type 0
MayHave plan node = is_wrong_kind plan node ≡ false

-- the first rule that a record breaks: its kind, and then the rules of a split or of a leaf
abbrev pub RecordFinds : Parts → Plan → Region → ℕ → TreeNode → Option Rejected → Type 0
RecordFinds p plan g index (Split id at left right) = SplitFinds p g.forbidden index id at left right
RecordFinds p plan g index (Loads place load) = LoadsFind p g.ranges index place load
RecordFinds p plan g index (Leaf evidence) =
    unless (MayHave plan (Leaf evidence)) (Kind index)
    then_by LeafFinds p plan.cuts (stated_cost plan) g index evidence

-- the first rule that these records break, the first of them having this index, at the regions that are to be answered
abbrev pub RecordsFind : Parts → Plan → List Region → ℕ → List TreeNode → Option Rejected → Type 0
RecordsFind p plan [] index nodes found = found ≡ None
RecordsFind p plan (g ∷ gs) index [] found = found ≡ None
RecordsFind p plan (g ∷ gs) index (node ∷ nodes) found =
    (RecordFinds p plan g index node then_by RecordsFind p plan (children_at g node ++ gs) (suc index) nodes) found

-- the first rule that the records of a tree break
abbrev pub TreeFinds : Parts → Plan → List TreeNode → Option Rejected → Type 0
TreeFinds p plan nodes = RecordsFind p plan (whole p ∷ []) 0 nodes
