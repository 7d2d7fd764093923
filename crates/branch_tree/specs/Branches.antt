-- The search tree: what its nodes forbid, and how they are split.
use Rattle.std.specs.Prelude.{ℕ, suc, ◌≡◌, ◌≢◌, ◌<◌, ◌+◌, ◌*◌, Bool, true, false, ⊤, ◌⊎◌, List, [], ◌∷◌, ◌++◌, length, All, Option, Some, None, if◌then◌else◌, option_and_then, slice_get, slice_index_or, slice_set, IsTrue}
use Rattle.plan_base.specs.declared.ids.NodeId.{NodeId}
use Rattle.plan_base.specs.declared.ids.ArcId.{ArcId}
use Rattle.plan_base.specs.declared.ids.BranchId.{BranchId}
use Rattle.plan_base.specs.declared.ids.DemandId.{DemandId}
use Rattle.plan_base.specs.declared.parts.Parts.{Parts}
use Rattle.plan_base.specs.declared.limits.TheConstants.{MAX_TOTAL_LOAD}
use Rattle.plan_base.specs.Arcs.{is_arc, tail_of, demand_at}
use Rattle.plan_base.specs.Places.{places}
use Rattle.link_steps.specs.declared.range.LoadRange.{LoadRange}
use Rattle.link_steps.specs.Ranges.{range_at, whole_ranges, with_range, ends_at, begins_at, AreRanges}
use Rattle.arc_restrict.specs.Rows.{Rows}
use Rattle.arc_restrict.specs.Restrictions.{Forbidden, none_forbidden, is_among, with_forbidden, IsPermitted}
use Rattle.arc_restrict.specs.Partings.{PartAt}
use Rattle.proof_tree.specs.declared.cuts.Cut.{Cut}
use Rattle.proof_tree.specs.declared.tree.Evidence.{Evidence}
use Rattle.proof_tree.specs.declared.tree.Evidence.TheVariants as evidence
use Rattle.proof_tree.specs.Regions.{Region, IsLoadSplit}
use Rattle.proof_tree.specs.RatedEvidence.{AreLawfulNumbers, HasRatedEvidence}
use Rattle.proof_tree.specs.Splits.{IsSplit, PartsTwoPaths}
use Rattle.proof_tree.specs.Spellings.{IsAscending}
use Rattle.branch_tree.specs.declared.node.Limit.{Limit}
use Rattle.branch_tree.specs.declared.node.Limit.TheVariants as limit
use Rattle.branch_tree.specs.declared.node.LoadSplit.{LoadSplit}
use Rattle.branch_tree.specs.declared.node.Divider.{Divider}
use Rattle.branch_tree.specs.declared.node.Divider.TheVariants as divider
use Rattle.branch_tree.specs.declared.node.Division.{Division}
use Rattle.branch_tree.specs.declared.node.Fate.{Fate}
use Rattle.branch_tree.specs.declared.node.Fate.TheVariants.{Undone, ClosedBy, DividedBy}
use Rattle.branch_tree.specs.declared.node.BranchNode.{BranchNode}
use Rattle.branch_tree.specs.declared.split_fault.SplitFault.{SplitFault}
use Rattle.branch_tree.specs.declared.split_fault.SplitFault.TheVariants.{NotOpen, NotPermitted, SamePath, OutOfMemory}
use Rattle.branch_tree.specs.declared.split_fault.LoadFault.{LoadFault}
use Rattle.branch_tree.specs.declared.split_fault.LoadFault.TheVariants as load_fault
use Rattle.branch_tree.specs.Dealing.{AreDealt}

-- what is forbidden where this limit is too
abbrev pub forbidden_with : Forbidden → Limit → Forbidden
forbidden_with r (limit.Arcs id arcs) = with_forbidden r id arcs
forbidden_with r (limit.UpTo place load) = r
forbidden_with r (limit.Above place load) = r

-- the ranges that it leaves of these
abbrev pub ranges_with : List LoadRange → Limit → List LoadRange
ranges_with ranges (limit.Arcs id arcs) = ranges
ranges_with ranges (limit.UpTo place load) = with_range ranges place (ends_at (range_at ranges place) load)
ranges_with ranges (limit.Above place load) = with_range ranges place (begins_at (range_at ranges place) (load + 1))

-- what these limits forbid, the last one first
abbrev pub restriction_by : List Limit → Forbidden
restriction_by [] = none_forbidden
restriction_by (last ∷ limits) = forbidden_with (restriction_by limits) last

-- how much load they leave each place
abbrev pub ranges_by : Parts → List Limit → List LoadRange
ranges_by p [] = whole_ranges p
ranges_by p (last ∷ limits) = ranges_with (ranges_by p limits) last

-- the region that they make
abbrev pub region_by : Parts → List Limit → Region
region_by p limits = record { forbidden = restriction_by limits; ranges = ranges_by p limits }

-- a region with one limit more
abbrev pub narrowed : Region → Limit → Region
narrowed g last = record { forbidden = forbidden_with g.forbidden last; ranges = ranges_with g.ranges last }

-- the limit of the left child of a split
abbrev pub left_limit : Divider → Limit
left_limit (divider.Arcs d) = limit.Arcs d.demand d.left
left_limit (divider.Load d) = limit.UpTo d.place d.load

-- the limit of the right child
abbrev pub right_limit : Divider → Limit
right_limit (divider.Arcs d) = limit.Arcs d.demand d.right
right_limit (divider.Load d) = limit.Above d.place d.load

-- the node that is read past the end of the tree
abbrev pub no_tree_node : BranchNode
no_tree_node = record { limits = []; prices = []; fate = Undone }

-- the node of this number
abbrev pub tree_node_at : List BranchNode → ℕ → BranchNode
tree_node_at nodes n = slice_index_or nodes n no_tree_node

-- the limits of the node of this number
abbrev pub limits_at : List BranchNode → ℕ → List Limit
limits_at nodes n = (tree_node_at nodes n).limits

-- what is forbidden at the node of this number
abbrev pub restriction_at : List BranchNode → ℕ → Forbidden
restriction_at nodes n = restriction_by (limits_at nodes n)

-- how much load each place may carry at the node of this number
abbrev pub ranges_at : Parts → List BranchNode → ℕ → List LoadRange
ranges_at p nodes n = ranges_by p (limits_at nodes n)

-- the region of the node of this number
abbrev pub region_at : Parts → List BranchNode → ℕ → Region
region_at p nodes n = region_by p (limits_at nodes n)

-- it is open
abbrev pub is_open_fate : Fate → Bool
is_open_fate Undone = true
is_open_fate (ClosedBy found) = false
is_open_fate (DividedBy division) = false

-- the node is open
abbrev pub is_open_node : BranchNode → Bool
is_open_node node = is_open_fate node.fate

-- the prices of an open node
abbrev pub open_prices : BranchNode → Option (List ℕ)
open_prices node = if is_open_node node then Some node.prices else None

-- the prices of the node of this number, where it is open
abbrev pub prices_at : List BranchNode → ℕ → Option (List ℕ)
prices_at nodes n = option_and_then open_prices (slice_get nodes n)

-- there is a node, and it is open
abbrev pub is_open_in : Option BranchNode → Bool
is_open_in None = false
is_open_in (Some node) = is_open_node node

-- there is a node of this number, and it is open
abbrev pub is_open_at : List BranchNode → ℕ → Bool
is_open_at nodes n = is_open_in (slice_get nodes n)

-- evidence that closes nothing
abbrev pub is_open_evidence : Evidence → Bool
is_open_evidence (evidence.Open prices) = true
is_open_evidence _ = false

-- the same tree with another fate of one node
abbrev pub with_fate : List BranchNode → ℕ → Fate → List BranchNode
with_fate nodes n fate = slice_set nodes n (record (tree_node_at nodes n) { fate = fate })

-- the same tree with other prices of one node
abbrev pub with_prices : List BranchNode → ℕ → List ℕ → List BranchNode
with_prices nodes n prices = slice_set nodes n (record (tree_node_at nodes n) { prices = prices })

-- an arc that leaves the node and is not forbidden is on one of the two sides
abbrev pub SharesOut : Parts → Forbidden → DemandId → NodeId → List ArcId → List ArcId → Type 0
SharesOut p r id at left right = (a : ArcId) → IsTrue (is_arc p a) → (tail_of p a).0 ≡ at.0 → r id.0 a ≡ false → (is_among left a ≡ true) ⊎ (is_among right a ≡ true)

-- a split of the restriction that parts two paths and shares out all unforbidden arcs of its node, which is not the demand's target, with ascending sides
pub record IsBranching (p : Parts) (r : Forbidden) (id : DemandId) (at : NodeId) (left right : List ArcId) : Type 0 where
  pub is_split : IsSplit p r id at left right
  pub parts : PartsTwoPaths p r id left right
  pub shares_out : SharesOut p r id at left right
  pub off_target : at.0 ≢ (demand_at p id.0).target.0
  pub left_ascends : IsAscending left
  pub right_ascends : IsAscending right

-- the child of a node that has this limit too: open with the same prices
abbrev pub child_of : BranchNode → Limit → BranchNode
child_of parent limit = record { limits = limit ∷ parent.limits; prices = parent.prices; fate = Undone }

-- the same tree with this split of one node, and its left and right child behind all nodes
abbrev pub with_division : List BranchNode → ℕ → Division → List BranchNode
with_division nodes n d = with_fate nodes n (DividedBy d) ++ (child_of (tree_node_at nodes n) (left_limit d.by) ∷ child_of (tree_node_at nodes n) (right_limit d.by) ∷ [])

-- an open node becomes split, and its two children are the last two nodes
pub record IsDivided (old : List BranchNode) (node : ℕ) (by : Divider) (ids : BranchId × BranchId) (new : List BranchNode) : Type 0 where
  pub open_before : is_open_at old node ≡ true
  pub left_id : ids.0.0 ≡ length old
  pub right_id : ids.1.0 ≡ suc (length old)
  pub new_is : new ≡ with_division old node (record { by = by; left_child = ids.0; right_child = ids.1 })

-- the split of a demand's arcs that puts these on the two sides
abbrev pub arcs_split : DemandId → NodeId → List ArcId → List ArcId → Divider
arcs_split id at left right = divider.Arcs (record { demand = id; at = at; left = left; right = right })

-- two permitted paths part at this node of the instance, along these arcs
pub record PartAtNode (p : Parts) (r : Forbidden) (id : DemandId) (first second : List ArcId) (found : NodeId × ArcId × ArcId) : Type 0 where
  pub first_permitted : IsPermitted r id.0 first
  pub second_permitted : IsPermitted r id.0 second
  pub part : PartAt p first second found.0 found.1 found.2
  pub within : found.0.0 < p.nodes

-- the node is split where the two paths part
pub record IsSplitAt (p : Parts) (old : List BranchNode) (node : ℕ) (id : DemandId) (first second : List ArcId) (ids : BranchId × BranchId) (new : List BranchNode) : Type 0 where
  pub found : NodeId × ArcId × ArcId
  pub part : PartAtNode p (restriction_at old node) id first second found
  pub left : List ArcId
  pub right : List ArcId
  pub dealt : AreDealt p (restriction_at old node) id found.0 found.1 found.2 left right
  pub branching : IsBranching p (restriction_at old node) id found.0 left right
  pub divided : IsDivided old node (arcs_split id found.0 left right) ids new

-- the node is split by loads of a place that its range has on both sides
pub record IsLoadSplitAt (p : Parts) (old : List BranchNode) (node : ℕ) (split : LoadSplit) (ids : BranchId × BranchId) (new : List BranchNode) : Type 0 where
  pub is_split : IsLoadSplit p (ranges_at p old node) split.place split.load
  pub divided : IsDivided old node (divider.Load split) ids new

-- the first of the paths that is not permitted
abbrev pub IsFirstForbidden : Forbidden → ℕ → List ArcId → List ArcId → ℕ → Type 0
IsFirstForbidden r k first second which =
    ((which ≡ 1) × (IsPermitted r k first → ⊥)) ⊎ ((which ≡ 2) × IsPermitted r k first × (IsPermitted r k second → ⊥))

-- why the node is not split, the first cause in this order; want of memory may come in place of it
abbrev pub IsSplitFault : List BranchNode → ℕ → DemandId → List ArcId → List ArcId → SplitFault → Type 0
IsSplitFault nodes node id first second NotOpen = is_open_at nodes node ≡ false
IsSplitFault nodes node id first second (NotPermitted which) = (is_open_at nodes node ≡ true) × IsFirstForbidden (restriction_at nodes node) id.0 first second which
IsSplitFault nodes node id first second SamePath =
    (is_open_at nodes node ≡ true) × IsPermitted (restriction_at nodes node) id.0 first × (first ≡ second)
IsSplitFault nodes node id first second OutOfMemory = ⊤

-- why the node is not split by loads of a place of the instance, the first cause in this order; want of memory may come in place of it
abbrev pub IsLoadFault : Parts → List BranchNode → ℕ → LoadSplit → LoadFault → Type 0
IsLoadFault p nodes node split load_fault.NotOpen = is_open_at nodes node ≡ false
IsLoadFault p nodes node split load_fault.OutsideRange = (is_open_at nodes node ≡ true) × (IsLoadSplit p (ranges_at p nodes node) split.place split.load → ⊥)
IsLoadFault p nodes node split load_fault.OutOfMemory = ⊤

-- the limit names a demand and arcs of the instance, or a place of it and a load that is below the most of all
abbrev pub IsLimitOf : Parts → Limit → Type 0
IsLimitOf p (limit.Arcs id arcs) = (id.0 < length p.demands) × All (λ a. a.0 < 2 * length p.links) arcs
IsLimitOf p (limit.UpTo place load) = (place < places p) × (load < MAX_TOTAL_LOAD)
IsLimitOf p (limit.Above place load) = (place < places p) × (load < MAX_TOTAL_LOAD)

-- a restriction was made for the demand and the arcs that the limit names
abbrev pub HasLimitRow : Rows → Limit → Type 0
HasLimitRow rows (limit.Arcs id arcs) = (id.0 < rows.demands) × All (λ a. a.0 < rows.arcs) arcs
HasLimitRow rows (limit.UpTo place load) = ⊤
HasLimitRow rows (limit.Above place load) = ⊤

-- there is a range of the place that the limit names, and its load is below the most of all
abbrev pub HasLimitRange : List LoadRange → Limit → Type 0
HasLimitRange ranges (limit.Arcs id arcs) = ⊤
HasLimitRange ranges (limit.UpTo place load) = (place < length ranges) × (load < MAX_TOTAL_LOAD)
HasLimitRange ranges (limit.Above place load) = (place < length ranges) × (load < MAX_TOTAL_LOAD)

-- a split of this region: one of arcs parts two paths and shares out all arcs of its node
abbrev pub IsDivider : Parts → Region → Divider → Type 0
IsDivider p g (divider.Arcs d) = IsBranching p g.forbidden d.demand d.at d.left d.right
IsDivider p g (divider.Load d) = IsLoadSplit p g.ranges d.place d.load

-- where the node is split, its split is one of this region
abbrev pub IsFateOf : Parts → Region → Fate → Type 0
IsFateOf p g Undone = ⊤
IsFateOf p g (ClosedBy found) = ⊤
IsFateOf p g (DividedBy d) = IsDivider p g d.by

-- a node of a tree for the instance: its limits name demands, arcs and places of it, each place's range has a load, and its split is as it should be
pub record IsNodeOf (p : Parts) (node : BranchNode) : Type 0 where
  pub limits : All (IsLimitOf p) node.limits
  pub ranges : AreRanges p (ranges_by p node.limits)
  pub fate : IsFateOf p (region_by p node.limits) node.fate

-- a tree for the instance
abbrev pub IsTreeOf : Parts → List BranchNode → Type 0
IsTreeOf p nodes = All (IsNodeOf p) nodes

-- an open leaf's prices and rates of cuts are as they have to be, and a closed leaf's evidence holds, against a cost or none
abbrev pub HasItsEvidence : Parts → List Cut → Option ℕ → Region → List ℕ → Fate → Type 0
HasItsEvidence p cuts cost g numbers Undone = AreLawfulNumbers p cuts numbers
HasItsEvidence p cuts cost g numbers (ClosedBy found) = HasRatedEvidence p cuts cost g found
HasItsEvidence p cuts cost g numbers (DividedBy d) = ⊤

-- each leaf has its evidence with these cuts at its own region
abbrev pub HaveTheirEvidence : Parts → List Cut → Option ℕ → List BranchNode → Type 0
HaveTheirEvidence p cuts cost nodes = All (λ node. HasItsEvidence p cuts cost (region_by p node.limits) node.prices node.fate) nodes
