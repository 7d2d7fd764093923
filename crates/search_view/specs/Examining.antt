-- What an examination works with.
use Rattle.std.specs.Prelude.{[], suc, ◌≡◌, List, ◌∷◌, length, Option, Some, slice_get}
use Rattle.plan_base.specs.declared.ids.ArcId.{ArcId}
use Rattle.plan_base.specs.declared.ids.BranchId.{BranchId}
use Rattle.plan_base.specs.declared.ids.DemandId.{DemandId}
use Rattle.branch_tree.specs.declared.node.Limit.{Limit}
use Rattle.branch_tree.specs.declared.node.Division.{Division}
use Rattle.branch_tree.specs.declared.node.Fate.TheVariants.{Undone}
use Rattle.second_path.specs.Others.{AreOnlyPaths, IsFirstTwo}
use Rattle.second_path.specs.declared.determined.Determined.{Determined}
use Rattle.second_path.specs.declared.determined.Determined.TheVariants as determined
use Rattle.search_nodes.specs.Grounds.{Kept, IsKeptRegion}
use Rattle.search_machine.specs.State.{Node, State, restriction_of, region_of, narrowed, left_limit, right_limit}
use Rattle.search_machine.specs.Readiness.{IsReady, IsFirstFar, NoneFar}
use Rattle.search_machine.specs.Dividing.{PartsBy, child_of}

-- the node of the number is an open leaf
pub record IsOpenAt (s : State) (id : BranchId) : Type 0 where
  pub node : Node
  pub is_node : slice_get s.nodes id.0 ≡ Some node
  pub undone : node.fate ≡ Undone

-- this is kept of the region of the node of the number
abbrev pub IsKeptAt : State → BranchId → Kept → Type 0
IsKeptAt s id kept = (node : Node) → slice_get s.nodes id.0 ≡ Some node → IsKeptRegion s.problem (region_of s.problem node) kept

-- the node of the number may be examined
pub record IsReadyAt (s : State) (id : BranchId) : Type 0 where
  pub node : Node
  pub ready : IsReady s id node

-- and it leaves each demand with a limit a path that keeps it
pub record IsNearAt (s : State) (id : BranchId) : Type 0 where
  pub node : Node
  pub ready : IsReady s id node
  pub none_far : NoneFar s.problem (restriction_of node)

-- the node of the number may be examined, and this is the first demand of which it leaves no path that keeps its limit
pub record IsFarAt (s : State) (id : BranchId) (demand : DemandId) : Type 0 where
  pub node : Node
  pub ready : IsReady s id node
  pub far : IsFirstFar s.problem (restriction_of node) demand

-- no demand is far at the node, and it leaves each one path, and these are they
pub record HasOnlyPaths (s : State) (id : BranchId) (paths : List (List ArcId)) : Type 0 where
  pub node : Node
  pub ready : IsReady s id node
  pub none_far : NoneFar s.problem (restriction_of node)
  pub only : AreOnlyPaths s.problem (restriction_of node) paths

-- no demand is far at the node, and it leaves the demand two paths, of which these are two
pub record HasTwoPaths (s : State) (id : BranchId) (demand : DemandId) (first second : List ArcId) : Type 0 where
  pub node : Node
  pub ready : IsReady s id node
  pub none_far : NoneFar s.problem (restriction_of node)
  pub two : IsFirstTwo s.problem (restriction_of node) demand.0 first second

-- what the node leaves; each demand has a path there
abbrev pub IsDeterminedAt : State → BranchId → Determined → Type 0
IsDeterminedAt s id (determined.Empty demand reached) = ⊥
IsDeterminedAt s id (determined.Two demand first second) = HasTwoPaths s id demand first second
IsDeterminedAt s id (determined.One paths) = HasOnlyPaths s id paths

-- the region of a child of the node of the number, which has this limit too
pub record HasGroundBelow (s : State) (id : BranchId) (limit : Limit) (ground : Option Kept) : Type 0 where
  pub node : Node
  pub is_node : slice_get s.nodes id.0 ≡ Some node
  pub kept : Kept
  pub is_ground : ground ≡ Some kept
  pub below : IsKeptRegion s.problem (narrowed (region_of s.problem node) limit) kept

-- a child of the node of the number, which has this limit too
pub record IsNodeBelow (s : State) (id : BranchId) (limit : Limit) (child : Node) : Type 0 where
  pub node : Node
  pub is_node : slice_get s.nodes id.0 ≡ Some node
  pub is_child : child ≡ child_of node limit

-- a child of the node of the number, which has this limit too, and its region
pub record IsChildAt (s : State) (id : BranchId) (limit : Limit) (child : Node) (ground : Option Kept) : Type 0 where
  pub node : Node
  pub is_node : slice_get s.nodes id.0 ≡ Some node
  pub is_child : child ≡ child_of node limit
  pub kept : Kept
  pub is_ground : ground ≡ Some kept
  pub below : IsKeptRegion s.problem (narrowed (region_of s.problem node) limit) kept

-- a division of the node of the number, whose children come next
pub record IsDivisionAt (s : State) (id : BranchId) (division : Division) : Type 0 where
  pub at : IsNearAt s id
  pub parts : PartsBy s.problem (region_of s.problem at.node) division.by
  pub left_next : division.left_child.0 ≡ length s.nodes
  pub right_next : division.right_child.0 ≡ suc (length s.nodes)

-- there is a child of the node of the number, which has this limit too, and its region
pub record HasChild (s : State) (id : BranchId) (limit : Limit) : Type 0 where
  pub child : Node
  pub ground : Option Kept
  pub is_child : IsChildAt s id limit child ground

-- the two children of a division of the node of the number, and their regions
pub record AreChildrenAt (s : State) (id : BranchId) (division : Division) (children : List Node) (grounds : List (Option Kept)) : Type 0 where
  pub left : HasChild s id (left_limit division.by)
  pub right : HasChild s id (right_limit division.by)
  pub children_are : children ≡ left.child ∷ right.child ∷ []
  pub grounds_are : grounds ≡ left.ground ∷ right.ground ∷ []
