-- A path has no fault exactly where it is a permitted path of the demand.
use Rattle.std.proofs.Common.{◌≡◌, ℕ, ◌<◌, ◌≤◌, ◌*◌, Bool, true, false, not, ◌&&◌, ◌==◌, List, length, take, None, refl, sym, ◌∙◌, arith}
use Rattle.std.proofs.lemmas.List.Elements.{All-from_get_or, All-get_or}
use Rattle.std.proofs.lemmas.Bool.{ltb-true}
use Rattle.plan_base.specs.declared.ids.ArcId.{ArcId}
use Rattle.plan_base.specs.declared.parts.Demand.{Demand}
use Rattle.plan_base.specs.declared.parts.Parts.{Parts}
use Rattle.plan_base.specs.declared.design_fault.DesignFault.TheVariants.{NotAPath, Repeats}
use Rattle.plan_base.specs.First.{◌or_else◌, when, first_fault, fault_at, first_in}
use Rattle.plan_base.specs.Facts.{IsInstance}
use Rattle.plan_base.specs.Faults.{demand_id}
use Rattle.plan_base.specs.Arcs.{is_arc, tail_of, head_of, link_of, demand_at, no_arc}
use Rattle.plan_base.specs.Paths.{arc_at, node_at}
use Rattle.plan_base.specs.DesignFaults.{has_met, step_fault, path_fault}
use Rattle.plan_base.proofs.Bools.{and-first, not_and-both}
use Rattle.plan_base.proofs.FirstFault.{or_else-none, when-none, none-when, none-or_else, first_fault-none, none-first_fault, first_in-none, fault_at-get_or}
use Rattle.plan_base.proofs.PathLaws.{IsSimplePath-path_fault, path_fault-IsSimplePath, walk-short}
use Rattle.arc_restrict.specs.Restrictions.{Forbidden, IsPermittedPath}
use Rattle.path_pricing.specs.declared.priced.Unfit.TheVariants.{NotPermitted}
use Rattle.path_pricing.specs.Faults.{place_fault, walk_fault}

-- the number of an arc is below twice the count of links
pub arc-within : (p : Parts) (a : ArcId) → is_arc p a ≡ true → a.0 < 2 * length p.links
arc-within p a h = let l : link_of a < length p.links = ltb-true _ _ (and-first _ _ h) in omega arith

-- an arc in its place on a permitted simple path
pub record IsInPlace (p : Parts) (d : Demand) (f : ArcId → Bool) (arcs : List ArcId) (i : ℕ) (a : ArcId) : Type 0 where
  pub is_an_arc : is_arc p a ≡ true
  pub goes_on : ((tail_of p a).0 == node_at p d.source arcs i) ≡ true
  pub is_new : has_met p d.source (take i arcs) (head_of p a) ≡ false
  pub allowed : f a ≡ false

IsInPlace-place_fault : (p : Parts) (d : Demand) (f : ArcId → Bool) (arcs : List ArcId) (i : ℕ) (a : ArcId) → place_fault p d f arcs i a ≡ None → IsInPlace p d f arcs i a
unfolding place_fault
IsInPlace-place_fault p d f arcs i a h =
    let leaves = not (is_arc p a && ((tail_of p a).0 == node_at p d.source arcs i)) in
    let met = has_met p d.source (take i arcs) (head_of p a) in
    let one = or_else-none (when leaves (NotPermitted i)) (when met (NotPermitted i) or_else when (f a) (NotPermitted i)) h in
    let two = or_else-none (when met (NotPermitted i)) (when (f a) (NotPermitted i)) one.1 in
    let goes = not_and-both (is_arc p a) ((tail_of p a).0 == node_at p d.source arcs i) (when-none _ _ one.0) in
    record { is_an_arc = goes.0; goes_on = goes.1; is_new = when-none _ _ two.0; allowed = when-none _ _ two.1 }

place_fault-IsInPlace : (p : Parts) (d : Demand) (f : ArcId → Bool) (arcs : List ArcId) (i : ℕ) (a : ArcId) → IsInPlace p d f arcs i a → place_fault p d f arcs i a ≡ None
unfolding place_fault
place_fault-IsInPlace p d f arcs i a h = rw (h.is_an_arc, h.goes_on, h.is_new, h.allowed) refl

-- a walk that is in its places up to here has no fault of a plain walk
step_fault-IsInPlace : (p : Parts) (d : Demand) (f : ArcId → Bool) (arcs : List ArcId) (i : ℕ) (a : ArcId) → IsInPlace p d f arcs i a → step_fault p (demand_id 0) d.source arcs i a ≡ None
unfolding step_fault
step_fault-IsInPlace p d f arcs i a h = rw (h.is_an_arc, h.goes_on, h.is_new) refl

IsInPlace-step_fault : (p : Parts) (d : Demand) (f : ArcId → Bool) (arcs : List ArcId) (i : ℕ) (a : ArcId) → step_fault p (demand_id 0) d.source arcs i a ≡ None → f a ≡ false → IsInPlace p d f arcs i a
unfolding step_fault
IsInPlace-step_fault p d f arcs i a h allowed =
    let leaves = not (is_arc p a && ((tail_of p a).0 == node_at p d.source arcs i)) in
    let met = has_met p d.source (take i arcs) (head_of p a) in
    let both = or_else-none (when leaves (NotAPath (demand_id 0) i)) (when met (Repeats (demand_id 0) i)) h in
    let goes = not_and-both (is_arc p a) ((tail_of p a).0 == node_at p d.source arcs i) (when-none _ _ both.0) in
    record { is_an_arc = goes.0; goes_on = goes.1; is_new = when-none _ _ both.1; allowed = allowed }

-- the arcs before a place without a fault
pub IsInPlace-before : (p : Parts) (d : Demand) (f : ArcId → Bool) (arcs : List ArcId) (i : ℕ) → i ≤ length arcs → first_fault (fault_at (place_fault p d f arcs) arcs) i ≡ None → (j : ℕ) → j < i → IsInPlace p d f arcs j (arc_at arcs j)
IsInPlace-before p d f arcs i within none j below =
    IsInPlace-place_fault p d f arcs j (arc_at arcs j) (sym (fault_at-get_or (place_fault p d f arcs) arcs j no_arc (omega arith)) ∙ first_fault-none (fault_at (place_fault p d f arcs) arcs) i none j below)

-- a walk without a fault has fewer arcs than there are nodes
pub place-short : (p : Parts) (d : Demand) (f : ArcId → Bool) (arcs : List ArcId) (i : ℕ) → IsInstance p → d.source.0 < p.nodes → i ≤ length arcs → first_fault (fault_at (place_fault p d f arcs) arcs) i ≡ None → i < p.nodes
place-short p d f arcs i inst start within none =
    let check = step_fault p (demand_id 0) d.source arcs in
    walk-short p (demand_id 0) d.source arcs i inst start within
    (none-first_fault (fault_at check arcs) i (λ j below.
    fault_at-get_or check arcs j no_arc (omega arith) ∙ step_fault-IsInPlace p d f arcs j (arc_at arcs j) (IsInPlace-before p d f arcs i within none j below)))

-- arcs without a fault are a permitted path of the demand
pub IsPermittedPath-walk_fault : (p : Parts) (k : ℕ) (r : Forbidden) (arcs : List ArcId) → walk_fault p (demand_at p k) (r k) arcs ≡ None → IsPermittedPath p r k arcs
unfolding walk_fault path_fault
IsPermittedPath-walk_fault p k r arcs h =
    let ends = not (node_at p (demand_at p k).source arcs (length arcs) == (demand_at p k).target.0) in
    let both = or_else-none (first_in (place_fault p (demand_at p k) (r k) arcs) arcs) (when ends (NotPermitted (length arcs))) h in
    let at = IsInPlace-before p (demand_at p k) (r k) arcs (length arcs) (omega arith) both.0 in
    let check = step_fault p (demand_id 0) (demand_at p k).source arcs in
    let walk : first_in check arcs ≡ None = none-first_fault (fault_at check arcs) (length arcs) (λ j below.
    fault_at-get_or check arcs j no_arc below ∙ step_fault-IsInPlace p (demand_at p k) (r k) arcs j (arc_at arcs j) (at j below)) in
    record {
      simple = IsSimplePath-path_fault p (demand_id 0) (demand_at p k) arcs (none-or_else _ _ walk (none-when ends _ (when-none _ _ both.1)));
      permitted = All-from_get_or (λ a. r k a ≡ false) arcs no_arc (λ i within. (at i within).allowed);
    }

-- a permitted path of the demand has no fault
pub walk_fault-IsPermittedPath : (p : Parts) (k : ℕ) (r : Forbidden) (arcs : List ArcId) → IsPermittedPath p r k arcs → walk_fault p (demand_at p k) (r k) arcs ≡ None
unfolding walk_fault path_fault
walk_fault-IsPermittedPath p k r arcs h =
    let ends = not (node_at p (demand_at p k).source arcs (length arcs) == (demand_at p k).target.0) in
    let check = step_fault p (demand_id 0) (demand_at p k).source arcs in
    let plain = path_fault-IsSimplePath p (demand_id 0) (demand_at p k) arcs h.simple in
    let both = or_else-none (first_in check arcs) (when ends (NotAPath (demand_id 0) (length arcs))) plain in
    none-or_else _ _
    (none-first_fault (fault_at (place_fault p (demand_at p k) (r k) arcs) arcs) (length arcs) (λ j below.
    fault_at-get_or (place_fault p (demand_at p k) (r k) arcs) arcs j no_arc below
    ∙ place_fault-IsInPlace p (demand_at p k) (r k) arcs j (arc_at arcs j)
    (IsInPlace-step_fault p (demand_at p k) (r k) arcs j (arc_at arcs j) (first_in-none check arcs both.0 j no_arc below) (All-get_or (λ a. r k a ≡ false) arcs j no_arc below h.permitted))))
    (none-when ends _ (when-none _ _ both.1))
