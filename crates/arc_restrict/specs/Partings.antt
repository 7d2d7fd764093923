-- Where two paths part.
use Rattle.std.specs.Prelude.{ℕ, ◌≡◌, ◌≢◌, ◌<◌, List, length, take}
use Rattle.plan_base.specs.declared.ids.NodeId.{NodeId}
use Rattle.plan_base.specs.declared.ids.ArcId.{ArcId}
use Rattle.plan_base.specs.declared.parts.Parts.{Parts}
use Rattle.plan_base.specs.Arcs.{tail_of, demand_at}
use Rattle.plan_base.specs.Paths.{arc_at, IsSimplePath}

-- both are simple paths of one demand
pub record AreOfOneDemand (p : Parts) (first second : List ArcId) : Type 0 where
  pub demand : ℕ
  pub first_is : IsSimplePath p (demand_at p demand) first
  pub second_is : IsSimplePath p (demand_at p demand) second

-- at this node the first path goes on along the one arc and the second along the other, and up to there they are the same
pub record PartAt (p : Parts) (first second : List ArcId) (node : NodeId) (one other : ArcId) : Type 0 where
  pub place : ℕ
  pub in_first : place < length first
  pub in_second : place < length second
  pub same : take place first ≡ take place second
  pub one_is : arc_at first place ≡ one
  pub other_is : arc_at second place ≡ other
  pub differ : one.0 ≢ other.0
  pub from_node : tail_of p one ≡ node
  pub other_from_node : tail_of p other ≡ node
