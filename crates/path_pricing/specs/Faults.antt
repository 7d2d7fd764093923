-- What is wrong with what is found for a demand, in the order in which it is looked for.
use Rattle.std.specs.Prelude.{ℕ, ◌+◌, ◌*◌, Bool, not, ◌&&◌, ◌==◌, List, length, take, Option, nat_lt}
use Rattle.plan_base.specs.declared.ids.ArcId.{ArcId}
use Rattle.plan_base.specs.declared.parts.Demand.{Demand}
use Rattle.plan_base.specs.declared.parts.Parts.{Parts}
use Rattle.plan_base.specs.First.{◌or_else◌, when, first_fault, first_in}
use Rattle.plan_base.specs.Arcs.{is_arc, tail_of, head_of, demand_at}
use Rattle.plan_base.specs.Paths.{node_at}
use Rattle.plan_base.specs.DesignFaults.{has_met}
use Rattle.arc_restrict.specs.Restrictions.{Forbidden}
use Rattle.arc_restrict.specs.Prices.{price_of}
use Rattle.path_pricing.specs.declared.priced.Priced.{Priced}
use Rattle.path_pricing.specs.declared.priced.Priced.TheVariants.{Path, NoPath}
use Rattle.path_pricing.specs.declared.priced.Unfit.{Unfit}
use Rattle.path_pricing.specs.declared.priced.Unfit.TheVariants.{NotPermitted, Dearer, WrongLength, BadSet, NotClosed}
use Rattle.path_pricing.specs.Priced.{is_open, price_at, potential_at, holds}

-- what is wrong with the arc at a place of a path: it does not exist or does not go on from the walk, it leads to a node that the walk has met, or it is forbidden
unfoldable pub place_fault : Parts → Demand → (ArcId → Bool) → List ArcId → ℕ → ArcId → Option Unfit
place_fault p demand forbids arcs i a =
    when (not (is_arc p a && ((tail_of p a).0 == node_at p demand.source arcs i))) (NotPermitted i)
    or_else when (has_met p demand.source (take i arcs) (head_of p a)) (NotPermitted i)
    or_else when (forbids a) (NotPermitted i)

-- what is wrong with a path: the first bad arc, or that it ends elsewhere than at the demand's target
unfoldable pub walk_fault : Parts → Demand → (ArcId → Bool) → List ArcId → Option Unfit
walk_fault p demand forbids arcs =
    first_in (place_fault p demand forbids arcs) arcs
    or_else when (not (node_at p demand.source arcs (length arcs) == demand.target.0)) (NotPermitted (length arcs))

-- the arc of this number
abbrev pub arc_id : ℕ → ArcId
arc_id n = record { 0 = n }

-- the arc is permitted, and its head's potential is above its tail's plus its price
unfoldable pub dearer_fault : Parts → List ℕ → ℕ → Forbidden → List ℕ → ArcId → Option Unfit
dearer_fault p prices k r potentials a =
    when (is_open p r k a && nat_lt (potential_at potentials (tail_of p a) + price_at p prices a) (potential_at potentials (head_of p a))) (Dearer a)

-- the first such arc, by number
abbrev pub first_dearer : Parts → List ℕ → ℕ → Forbidden → List ℕ → Option Unfit
first_dearer p prices k r potentials = first_fault (λ n. dearer_fault p prices k r potentials (arc_id n)) (2 * length p.links)

-- the source's potential is not 0, the target's is not the length, or the path's price is not the length
unfoldable pub length_fault : Parts → List ℕ → Demand → List ArcId → ℕ → List ℕ → Option Unfit
length_fault p prices demand path price potentials =
    when (not (potential_at potentials demand.source == 0)) WrongLength
    or_else when (not (potential_at potentials demand.target == price)) WrongLength
    or_else when (not (price_of p prices path == price)) WrongLength

-- the first fault of a path: its arcs, the count of potentials, the potentials along arcs, its length
unfoldable pub path_fault : Parts → List ℕ → ℕ → Forbidden → List ArcId → ℕ → List ℕ → Option Unfit
path_fault p prices k r path price potentials =
    walk_fault p (demand_at p k) (r k) path
    or_else when (not (length potentials == p.nodes)) WrongLength
    or_else first_dearer p prices k r potentials
    or_else length_fault p prices (demand_at p k) path price potentials

-- there is not one entry for each node, or the source is outside, or the target inside
unfoldable pub shape_fault : Parts → Demand → List Bool → Option Unfit
shape_fault p demand reached =
    when (not (length reached == p.nodes)) BadSet
    or_else when (not (holds reached demand.source)) BadSet
    or_else when (holds reached demand.target) BadSet

-- the arc is permitted, and leaves the set
unfoldable pub leaving_fault : Parts → ℕ → Forbidden → List Bool → ArcId → Option Unfit
leaving_fault p k r reached a =
    when (is_open p r k a && (holds reached (tail_of p a) && not (holds reached (head_of p a)))) (NotClosed a)

-- the first such arc, by number
abbrev pub first_leaving : Parts → ℕ → Forbidden → List Bool → Option Unfit
first_leaving p k r reached = first_fault (λ n. leaving_fault p k r reached (arc_id n)) (2 * length p.links)

-- the first fault of a set: its entries, then the arcs that leave it
unfoldable pub set_fault : Parts → ℕ → Forbidden → List Bool → Option Unfit
set_fault p k r reached = shape_fault p (demand_at p k) reached or_else first_leaving p k r reached

-- the first fault of what is found for the demand of this number under these prices and this restriction
abbrev pub priced_fault : Parts → List ℕ → ℕ → Forbidden → Priced → Option Unfit
priced_fault p prices k r (Path path price potentials) = path_fault p prices k r path price potentials
priced_fault p prices k r (NoPath reached) = set_fault p k r reached
