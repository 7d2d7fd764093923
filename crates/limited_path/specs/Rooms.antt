-- What a room holds.
use Rattle.std.specs.Prelude.{ℕ, ◌≤◌, ◌*◌, List}
use Rattle.plan_base.specs.declared.ids.ArcId.{ArcId}

-- the path in a room, and for how many arcs, labels and nodes the room has memory
pub record RoomValue : Type 0 where
  pub path : List ArcId
  pub arcs : ℕ
  pub labels : ℕ
  pub nodes : ℕ

-- the room has memory for a search among so many nodes
pub record HasMemoryFor (room : RoomValue) (nodes : ℕ) : Type 0 where
  pub for_arcs : nodes ≤ room.arcs
  pub for_labels : nodes * nodes ≤ room.labels
  pub for_nodes : nodes ≤ room.nodes
