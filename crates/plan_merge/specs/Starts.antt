-- The chosen open leaves of a tree as starts of a search.
use Rattle.std.specs.Prelude.{ℕ, zero, suc, ◌<◌, ◌≤◌, length, Bool, true, false, ◌&&◌, List, [], ◌∷◌, ◌++◌, All}
use Rattle.plan_base.specs.declared.parts.Parts.{Parts}
use Rattle.link_steps.specs.Ranges.{AreRanges}
use Rattle.proof_tree.specs.declared.cuts.Cut.{Cut}
use Rattle.proof_tree.specs.declared.tree.Evidence.TheVariants.{Open}
use Rattle.proof_tree.specs.declared.tree.TreeNode.{TreeNode}
use Rattle.proof_tree.specs.declared.tree.TreeNode.TheVariants.{Split, Loads, Leaf}
use Rattle.proof_tree.specs.Regions.{Region}
use Rattle.proof_tree.specs.Plans.{is_open}
use Rattle.proof_tree.specs.RatedEvidence.{AreLawfulNumbers}
use Rattle.branch_tree.specs.declared.node.Limit.{Limit}
use Rattle.branch_tree.specs.declared.node.Limit.TheVariants as limit
use Rattle.branch_tree.specs.declared.node.BranchNode.{BranchNode}
use Rattle.branch_tree.specs.Branches.{region_by, ranges_by, IsLimitOf, tree_node_at, limits_at, region_at}
use Rattle.branch_tree.specs.Records.{records_at, HasLaterChildren, AreInherited}
use Rattle.plan_merge.specs.declared.bounded_record.BoundedRecord.{BoundedRecord}
use Rattle.plan_merge.specs.declared.start.Start.{Start}
use Rattle.plan_merge.specs.Walks.{numbers_of}

-- the limits of a record's children, where the record has these limits, the last one first
abbrev pub limits_below : List Limit → TreeNode → List (List Limit)
limits_below limits (Leaf found) = []
limits_below limits (Split id at left right) = (limit.Arcs id left ∷ limits) ∷ (limit.Arcs id right ∷ limits) ∷ []
limits_below limits (Loads place load) = (limit.UpTo place load ∷ limits) ∷ (limit.Above place load ∷ limits) ∷ []

-- where the record is to be a start, the one with these limits and its numbers
abbrev pub start_if : Bool → List Limit → TreeNode → List Start
start_if true limits node = record { limits = limits; prices = numbers_of node } ∷ []
start_if false limits node = []

-- the chosen open leaves of trees whose heads have these limits
abbrev pub starts_at : List (List Limit) → List BoundedRecord → List Bool → List Start
starts_at [] xs chosen = []
starts_at (limits ∷ more) [] chosen = []
starts_at (limits ∷ more) (x ∷ xs) [] = []
starts_at (limits ∷ more) (x ∷ xs) (one ∷ chosen) = start_if (is_open x.node && one) limits x.node ++ starts_at (limits_below limits x.node ++ more) xs chosen

-- the chosen open leaves of one tree
abbrev pub starts_of : List BoundedRecord → List Bool → List Start
starts_of xs chosen = starts_at ([] ∷ []) xs chosen

-- what is said of a record at its region holds of the leaf that the start is of
abbrev pub HoldsAtStart : (Region → TreeNode → Type 0) → Parts → Start → Type 0
HoldsAtStart Q p start = Q (region_by p start.limits) (Leaf (Open start.prices))

-- the limits are those of the instance, and leave each place a load
abbrev pub AreLawfulLimits : Parts → List Limit → Type 0
AreLawfulLimits p limits = All (IsLimitOf p) limits × AreRanges p (ranges_by p limits)

-- a start with lawful limits and numbers
abbrev pub IsStart : Parts → List Cut → Start → Type 0
IsStart p cuts start = AreLawfulLimits p start.limits × AreLawfulNumbers p cuts start.prices

-- nodes of a search from so many starts: the children of each split come later, and have its limits and their side
pub record AreForest (nodes : List BranchNode) (starts : ℕ) : Type 0 where
  pub within : starts ≤ length nodes
  pub later : (n : ℕ) → n < length nodes → HasLaterChildren (length nodes) n (tree_node_at nodes n).fate
  pub inherited : (n : ℕ) → n < length nodes → AreInherited (limits_at nodes) (limits_at nodes n) (tree_node_at nodes n).fate

-- the records of the subtrees of so many nodes from this one on
abbrev pub forest_from : ℕ → ℕ → List BranchNode → List TreeNode
forest_from zero n nodes = []
forest_from (suc k) n nodes = records_at (length nodes) nodes n ++ forest_from k (suc n) nodes

-- the regions of so many nodes from this one on
abbrev pub regions_from : Parts → ℕ → ℕ → List BranchNode → List Region
regions_from p zero n nodes = []
regions_from p (suc k) n nodes = region_at p nodes n ∷ regions_from p k (suc n) nodes
