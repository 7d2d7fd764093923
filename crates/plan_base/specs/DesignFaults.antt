-- What is wrong with a design, in the order in which it is looked for.
use Rattle.std.specs.Prelude.{ℕ, ◌*◌, Bool, false, not, ◌&&◌, ◌||◌, List, length, take, Option, Some, None, sum, nat_lt, ◌==◌, slice_index}
use Rattle.std.specs.List.{list_any}
use Rattle.plan_base.specs.declared.ids.NodeId.{NodeId}
use Rattle.plan_base.specs.declared.ids.ArcId.{ArcId}
use Rattle.plan_base.specs.declared.ids.LinkId.{LinkId}
use Rattle.plan_base.specs.declared.ids.DemandId.{DemandId}
use Rattle.plan_base.specs.declared.parts.CountLaw.{CountLaw}
use Rattle.plan_base.specs.declared.parts.CountLaw.TheVariants.{Any, AtMostOne}
use Rattle.plan_base.specs.declared.parts.Module.{Module}
use Rattle.plan_base.specs.declared.parts.Link.{Link}
use Rattle.plan_base.specs.declared.parts.Demand.{Demand}
use Rattle.plan_base.specs.declared.parts.Parts.{Parts}
use Rattle.plan_base.specs.declared.path.Design.{Design}
use Rattle.plan_base.specs.declared.design_fault.DesignFault.{DesignFault}
use Rattle.plan_base.specs.declared.design_fault.DesignFault.TheVariants.{WrongCount, NotAPath, Repeats, CountShape, Short, TooLong}
use Rattle.plan_base.specs.declared.limits.TheConstants.{MAX_COUNT, MAX_COUNT_COST}
use Rattle.plan_base.specs.First.{◌or_else◌, when, first_fault, first_in}
use Rattle.plan_base.specs.Faults.{link_id, demand_id}
use Rattle.plan_base.specs.Arcs.{is_arc, tail_of, head_of, demand_at, link_at}
use Rattle.plan_base.specs.Paths.{node_at}
use Rattle.plan_base.specs.Designs.{path_at, counts_at, need, capacity_with}

-- the walk from the source along these arcs has met the node
abbrev pub has_met : Parts → NodeId → List ArcId → NodeId → Bool
has_met p source arcs node = source.0 == node.0 || list_any (λ a. is_arc p a && ((head_of p a).0 == node.0)) arcs

-- what is wrong with the arc at a place of a path
unfoldable pub step_fault : Parts → DemandId → NodeId → List ArcId → ℕ → ArcId → Option DesignFault
step_fault p id source arcs i a =
    when (not (is_arc p a && ((tail_of p a).0 == node_at p source arcs i))) (NotAPath id i)
    or_else when (has_met p source (take i arcs) (head_of p a)) (Repeats id i)

-- what is wrong with a walk of a demand: the first bad arc, or that it ends elsewhere than at the target
unfoldable pub path_fault : Parts → DemandId → Demand → List ArcId → Option DesignFault
path_fault p id k arcs =
    first_in (step_fault p id k.source arcs) arcs
    or_else when (not (node_at p k.source arcs (length arcs) == k.target.0)) (NotAPath id (length arcs))

-- the path has more arcs than the limit, if there is one
abbrev pub length_fault : DemandId → Option ℕ → ℕ → Option DesignFault
length_fault id None arcs = None
length_fault id (Some limit) arcs = when (nat_lt limit arcs) (TooLong id arcs limit)

-- a count, or its cost, is too large
abbrev pub is_past_shape : ℕ → ℕ → Bool
is_past_shape count cost = nat_lt MAX_COUNT count || nat_lt MAX_COUNT_COST (count * cost)

-- what is wrong with the count of a module
abbrev pub count_fault : LinkId → List ℕ → ℕ → Module → Option DesignFault
count_fault id counts m module_ = when (is_past_shape (slice_index counts m) module_.cost) (CountShape id)

-- the law does not allow the counts
abbrev pub is_unlawful : CountLaw → List ℕ → Bool
is_unlawful Any counts = false
is_unlawful AtMostOne counts = nat_lt 1 (sum counts)

-- what is wrong with the counts of a link's modules
unfoldable pub counts_fault : CountLaw → LinkId → Link → List ℕ → Option DesignFault
counts_fault law id l counts =
    when (not (length counts == length l.modules)) (CountShape id)
    or_else first_in (count_fault id counts) l.modules
    or_else when (is_unlawful law counts) (CountShape id)

-- the needed capacity, in load grains, is above the capacity
abbrev pub load_fault : LinkId → ℕ → ℕ → Option DesignFault
load_fault id load capacity = when (nat_lt capacity load) (Short id load capacity)

-- what is wrong with a link: its counts, or else what it needs
unfoldable pub carries_fault : Parts → Design → ℕ → Option DesignFault
carries_fault p d e =
    counts_fault p.law (link_id e) (link_at p e) (counts_at d e)
    or_else load_fault (link_id e) (need p d e) (capacity_with (link_at p e) (counts_at d e))

-- there is not one path for each demand and one list of counts for each link
abbrev pub wrong_count : Parts → Design → Option DesignFault
wrong_count p d = when (not (length d.paths == length p.demands && (length d.counts == length p.links))) WrongCount

-- what is wrong with the path of the demand of this number: that it is no simple path, or else too long
unfoldable pub demand_path_fault : Parts → Design → ℕ → Option DesignFault
demand_path_fault p d k =
    path_fault p (demand_id k) (demand_at p k) (path_at d k)
    or_else length_fault (demand_id k) (demand_at p k).hops (length (path_at d k))

-- the first fault: the counts of lists, then each demand's path, then each link's modules and load
unfoldable pub design_fault : Parts → Design → Option DesignFault
design_fault p d =
    wrong_count p d
    or_else first_fault (demand_path_fault p d) (length p.demands)
    or_else first_fault (carries_fault p d) (length p.links)
