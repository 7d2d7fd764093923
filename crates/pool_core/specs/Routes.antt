-- What is found of the only paths at a node. No public clause cites this module.
use Rattle.std.specs.Prelude.{◌≡◌, List, length, Some, slice_get}
use Rattle.plan_base.specs.declared.ids.ArcId.{ArcId}
use Rattle.plan_base.specs.declared.ids.BranchId.{BranchId}
use Rattle.plan_base.specs.declared.ids.LinkId.{LinkId}
use Rattle.plan_base.specs.Places.{places}
use Rattle.proof_tree.specs.Evidence.{ClosedByOverfull}
use Rattle.completions.specs.Completions.{CarryLoads, AreInside}
use Rattle.search_machine.specs.State.{Node, State, ranges_of, region_of}

-- the only paths at the node of the number overfill the link, or put a load outside its range on a place of it
pub record IsOverfullAt (s : State) (id : BranchId) (link : LinkId) : Type 0 where
  pub node : Node
  pub is_node : slice_get s.nodes id.0 ≡ Some node
  pub overfull : ClosedByOverfull s.problem (region_of s.problem node) link

-- each link can carry these paths, and each place has a load in its range at the node of the number
pub record AreCarriedAt (s : State) (id : BranchId) (paths : List (List ArcId)) : Type 0 where
  pub node : Node
  pub is_node : slice_get s.nodes id.0 ≡ Some node
  pub carry : CarryLoads s.problem paths (length s.problem.links)
  pub inside : AreInside s.problem (ranges_of s.problem node) paths (places s.problem)
