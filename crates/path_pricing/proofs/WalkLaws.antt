-- What the loop over the arcs of a path knows: where it stands, and which nodes it has met.
use Rattle.std.proofs.Common.{◌≡◌, ℕ, ◌+◌, ◌<◌, Bool, true, false, not, ◌&&◌, ◌==◌, List, length, get_or, take, Some, None, refl, sym, ◌∙◌}
use Rattle.base_items.specs.Met.{Stamps, is_met}
use Rattle.plan_base.specs.declared.ids.ArcId.{ArcId}
use Rattle.plan_base.specs.declared.ids.DemandId.{DemandId}
use Rattle.plan_base.specs.declared.parts.Demand.{Demand}
use Rattle.plan_base.specs.declared.parts.Parts.{Parts}
use Rattle.plan_base.specs.First.{◌or_else◌, when, first_fault, fault_at, first_in}
use Rattle.plan_base.specs.Arcs.{is_arc, tail_of, head_of}
use Rattle.plan_base.specs.DesignFaults.{has_met}
use Rattle.plan_base.specs.Walks.{walk_fault, IsWalk}
use Rattle.plan_base.proofs.FirstFault.{or_else-none, when-none, first_fault-next, first_fault-here, fault_at-get_or}
use Rattle.path_pricing.specs.declared.priced.Unfit.{Unfit}
use Rattle.path_pricing.specs.declared.priced.Unfit.TheVariants.{NotPermitted}
use Rattle.path_pricing.specs.Faults.{place_fault}
use Rattle.path_pricing.specs.Walks.{step_fault}

-- what is wrong with the arc is the same, told by the nodes that are met
place_fault-step_fault : (p : Parts) (d : Demand) (f : ArcId → Bool) (arcs : List ArcId) (i here : ℕ) (met : Stamps) (a : ArcId) → IsWalk p d.source arcs i here met → place_fault p d f arcs i a ≡ step_fault p f met here i a
unfolding place_fault step_fault
place_fault-step_fault p d f arcs i here met a walk = by_cases (is_arc p a) refl
  where
    by_cases : (b : Bool) → is_arc p a ≡ b → place_fault p d f arcs i a ≡ step_fault p f met here i a
    by_cases false is = rw is refl
    by_cases true is =
        let same : is_met met (head_of p a).0 ≡ has_met p d.source (take i arcs) (head_of p a) = walk.has_met_nodes (head_of p a) in
        rw (same, walk.stands) refl

-- the walk stops here
pub walk-stops : (p : Parts) (d : Demand) (f : ArcId → Bool) (arcs : List ArcId) (i here : ℕ) (met : Stamps) (x : ArcId) (e : Unfit) → IsWalk p d.source arcs i here met
    → i < length arcs → first_fault (fault_at (place_fault p d f arcs) arcs) i ≡ None → Some e ≡ step_fault p f met here i (get_or arcs i x) → first_in (place_fault p d f arcs) arcs ≡ Some e
walk-stops p d f arcs i here met x e walk within before here_is =
    first_fault-here (fault_at (place_fault p d f arcs) arcs) e i (length arcs) before
    (fault_at-get_or (place_fault p d f arcs) arcs i x within ∙ place_fault-step_fault p d f arcs i here met (get_or arcs i x) walk ∙ sym here_is) within

-- the walk goes on
pub walk-goes_on : (p : Parts) (d : Demand) (f : ArcId → Bool) (arcs : List ArcId) (i here : ℕ) (met : Stamps) (x : ArcId) → IsWalk p d.source arcs i here met → i < length arcs
    → first_fault (fault_at (place_fault p d f arcs) arcs) i ≡ None → None ≡ step_fault p f met here i (get_or arcs i x) → first_fault (fault_at (place_fault p d f arcs) arcs) (i + 1) ≡ None
walk-goes_on p d f arcs i here met x walk within before none =
    first_fault-next (fault_at (place_fault p d f arcs) arcs) i before
    (fault_at-get_or (place_fault p d f arcs) arcs i x within ∙ place_fault-step_fault p d f arcs i here met (get_or arcs i x) walk ∙ sym none)

-- an arc without a fault has none in the walk of a design either
pub walk_fault-none : (p : Parts) (id : DemandId) (f : ArcId → Bool) (met : Stamps) (here i : ℕ) (a : ArcId) → None ≡ step_fault p f met here i a → None ≡ walk_fault p id met here i a
unfolding step_fault walk_fault
walk_fault-none p id f met here i a none =
    let rest = when (is_met met (head_of p a).0) (NotPermitted i) or_else when (f a) (NotPermitted i) in
    let both = or_else-none (when (not (is_arc p a && ((tail_of p a).0 == here))) (NotPermitted i)) rest (sym none) in
    let new = or_else-none (when (is_met met (head_of p a).0) (NotPermitted i)) (when (f a) (NotPermitted i)) both.1 in
    rw (when-none _ _ both.0, when-none _ _ new.0) refl
