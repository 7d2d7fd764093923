-- What is wrong with parts, in the order in which it is looked for.
use Rattle.std.specs.Prelude.{ℕ, ◌≡◌, ◌≢◌, ◌-◌, ◌*◌, ◌^◌, Bool, min, ◌||◌, length, Option, Some, nat_lt, nat_le, ◌==◌}
use Rattle.std.specs.List.{list_any}
use Rattle.plan_base.specs.declared.ids.NodeId.{NodeId}
use Rattle.plan_base.specs.declared.ids.LinkId.{LinkId}
use Rattle.plan_base.specs.declared.ids.DemandId.{DemandId}
use Rattle.plan_base.specs.declared.parts.Module.{Module}
use Rattle.plan_base.specs.declared.parts.Link.{Link}
use Rattle.plan_base.specs.declared.parts.Demand.{Demand}
use Rattle.plan_base.specs.declared.parts.Parts.{Parts}
use Rattle.plan_base.specs.declared.build_fault.BuildFault.{BuildFault}
use Rattle.plan_base.specs.declared.build_fault.BuildFault.TheVariants.{LoopLink, LoopDemand, EndOutOfRange, OverLimit, OutOfMemory}
use Rattle.plan_base.specs.declared.build_fault.End.TheVariants as end
use Rattle.plan_base.specs.declared.limits.TheConstants.{MAX_NODES, MAX_LINKS, MAX_DEMANDS, MAX_MODULES, MAX_TOTAL_LOAD, MAX_ROUTING_COST, CAPACITY_BOUND, MODULE_COST_BOUND}
use Rattle.plan_base.specs.Facts.{total_load}
use Rattle.plan_base.specs.First.{◌or_else◌, when, first_in}

-- the id of the link of this number
abbrev pub link_id : ℕ → LinkId
link_id e = record { 0 = e }

-- the id of the demand of this number
abbrev pub demand_id : ℕ → DemandId
demand_id k = record { 0 = k }

-- a count as a fault tells it
abbrev pub told_of : ℕ → ℕ
told_of n = min n (2 ^ 32 - 1)

-- a count of nodes, links or demands is past its limit
abbrev pub size_fault : Parts → Option BuildFault
size_fault p =
    when (nat_lt MAX_NODES p.nodes) (OverLimit 3 p.nodes)
    or_else when (nat_lt MAX_LINKS (length p.links)) (OverLimit 4 (told_of (length p.links)))
    or_else when (nat_lt MAX_DEMANDS (length p.demands)) (OverLimit 5 (told_of (length p.demands)))

-- a capacity or a cost of the module is past its bound
abbrev pub is_large : Module → Bool
is_large m = nat_le CAPACITY_BOUND m.capacity || nat_le MODULE_COST_BOUND m.cost

-- a number of the link is past its bound
abbrev pub has_large_number_of : Link → Bool
has_large_number_of l = nat_le CAPACITY_BOUND l.pre || nat_le CAPACITY_BOUND l.routing || list_any is_large l.modules

-- an end is no node
abbrev pub has_end_outside : ℕ → NodeId → NodeId → Bool
has_end_outside nodes source target = nat_le nodes source.0 || nat_le nodes target.0

-- what is wrong with a link: its modules, its numbers, an end that is no node, or equal ends
unfoldable pub link_fault : ℕ → ℕ → Link → Option BuildFault
link_fault nodes e l =
    when (nat_lt MAX_MODULES (length l.modules)) (OverLimit 6 e)
    or_else when (has_large_number_of l) (OverLimit 10 e)
    or_else when (has_end_outside nodes l.source l.target) (EndOutOfRange (end.Link (link_id e)))
    or_else when (l.source.0 == l.target.0) (LoopLink (link_id e))

-- what is wrong with a demand: an end that is no node, or equal ends
unfoldable pub demand_fault : ℕ → ℕ → Demand → Option BuildFault
demand_fault nodes k d =
    when (has_end_outside nodes d.source d.target) (EndOutOfRange (end.Demand (demand_id k)))
    or_else when (d.source.0 == d.target.0) (LoopDemand (demand_id k))

-- the total load is past its limit
abbrev pub total_fault : Parts → Option BuildFault
total_fault p = when (nat_lt MAX_TOTAL_LOAD (total_load p)) (OverLimit 7 0)

-- the routing cost of the total load on a link is past its limit
abbrev pub routing_fault : ℕ → ℕ → Link → Option BuildFault
routing_fault total e l = when (nat_lt MAX_ROUTING_COST (l.routing * total)) (OverLimit 8 e)

-- the first fault: sizes, then each link, then each demand, then the total load, then each link's routing cost
unfoldable pub build_fault : Parts → Option BuildFault
build_fault p =
    size_fault p
    or_else first_in (link_fault p.nodes) p.links
    or_else first_in (demand_fault p.nodes) p.demands
    or_else total_fault p
    or_else first_in (routing_fault (total_load p)) p.links

-- a fault that is told of parts: want of memory may be told of any, each other fault only where it is the first
abbrev pub IsBuildFault : Parts → BuildFault → Type 0
IsBuildFault p fault = fault ≢ OutOfMemory → build_fault p ≡ Some fault
