-- Arcs: link e gives arc 2e from source to target and, where links may be used against their direction, arc 2e + 1 back.
use Rattle.std.specs.Prelude.{ℕ, ◌/◌, ◌%◌, Bool, true, false, ◌&&◌, ◌||◌, length, [], None, slice_index_or, if◌then◌else◌, nat_lt, ◌==◌}
use Rattle.plan_base.specs.declared.ids.NodeId.{NodeId}
use Rattle.plan_base.specs.declared.ids.ArcId.{ArcId}
use Rattle.plan_base.specs.declared.parts.Orient.{Orient}
use Rattle.plan_base.specs.declared.parts.Orient.TheVariants.{Directed, Undirected, Bidirected}
use Rattle.plan_base.specs.declared.parts.Link.{Link}
use Rattle.plan_base.specs.declared.parts.Demand.{Demand}
use Rattle.plan_base.specs.declared.parts.Parts.{Parts}

-- links may be used against their direction
abbrev pub goes_back : Orient → Bool
goes_back Directed = false
goes_back Undirected = true
goes_back Bidirected = true

-- the node that is read past the end of a list
abbrev pub no_node : NodeId
no_node = record { 0 = 0 }

-- the link that is read past the end of the list
abbrev pub no_link : Link
no_link = record { source = no_node; target = no_node; pre = 0; routing = 0; modules = [] }

-- the demand that is read past the end of the list
abbrev pub no_demand : Demand
no_demand = record { source = no_node; target = no_node; load = 0; hops = None }

-- the arc that is read past the end of a list
abbrev pub no_arc : ArcId
no_arc = record { 0 = 0 }

-- the link of this number
abbrev pub link_at : Parts → ℕ → Link
link_at p e = slice_index_or p.links e no_link

-- the demand of this number
abbrev pub demand_at : Parts → ℕ → Demand
demand_at p k = slice_index_or p.demands k no_demand

-- the number of the link that an arc goes along
abbrev pub link_of : ArcId → ℕ
link_of a = a.0 / 2

-- an arc against its link's direction
abbrev pub is_back : ArcId → Bool
is_back a = a.0 % 2 == 1

-- the arc exists: its link does, and it goes back only where links may be used so
abbrev pub is_arc : Parts → ArcId → Bool
is_arc p a = nat_lt (link_of a) (length p.links) && (a.0 % 2 == 0 || goes_back p.orient)

-- the node that an arc leaves
abbrev pub tail_of : Parts → ArcId → NodeId
tail_of p a = if is_back a then (link_at p (link_of a)).target else (link_at p (link_of a)).source

-- the node that an arc leads to
abbrev pub head_of : Parts → ArcId → NodeId
head_of p a = if is_back a then (link_at p (link_of a)).source else (link_at p (link_of a)).target
