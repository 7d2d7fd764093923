-- A set of nodes without a fault is a cut.
use Rattle.std.proofs.Common.{◌≡◌, ℕ, ◌<◌, Bool, List, length, None, refl}
use Rattle.plan_base.specs.declared.ids.DemandId.{DemandId}
use Rattle.plan_base.specs.declared.parts.Parts.{Parts}
use Rattle.arc_restrict.specs.Restrictions.{Forbidden}
use Rattle.proof_tree.specs.Evidence.{ClosedByCut}
use Rattle.path_pricing.specs.declared.priced.Priced.TheVariants as priced
use Rattle.path_pricing.specs.Faults.{priced_fault}
use Rattle.path_pricing.proofs.FaultLaws.{IsShown-priced_fault}

-- a set of nodes in which the check of a missing path finds no fault is a cut of the demand
pub ClosedByCut-priced_fault : (p : Parts) (prices : List ℕ) (id : DemandId) (r : Forbidden) (reached : List Bool)
    → id.0 < length p.demands → priced_fault p prices id.0 r (priced.NoPath reached) ≡ None → ClosedByCut p r id reached
ClosedByCut-priced_fault p prices id r reached within h =
    let shown = IsShown-priced_fault p prices id.0 r (priced.NoPath reached) h in
    record {
      demand = within;
      source = shown.source;
      target = shown.target;
      closed = λ a arc free at_tail. shown.closed a (rw (arc, free) refl) at_tail;
    }

-- a set of nodes in which the check of a missing path finds no fault has one mark for each node
pub length-priced_fault : (p : Parts) (prices : List ℕ) (k : ℕ) (r : Forbidden) (reached : List Bool) → priced_fault p prices k r (priced.NoPath reached) ≡ None → length reached ≡ p.nodes
length-priced_fault p prices k r reached h = (IsShown-priced_fault p prices k r (priced.NoPath reached) h).count
