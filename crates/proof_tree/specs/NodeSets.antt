-- Sets of nodes, by one answer for each node.
use Rattle.std.specs.Prelude.{Bool, false, List, slice_index_or}
use Rattle.plan_base.specs.declared.ids.NodeId.{NodeId}

-- the set holds the node
abbrev pub holds : List Bool → NodeId → Bool
holds reached node = slice_index_or reached node.0 false
