-- What a worker hands in.
use Rattle.std.specs.Prelude.{ℕ, ◌≡◌, None}
use Rattle.plan_base.specs.declared.ids.BranchId.{BranchId}
use Rattle.plan_base.specs.declared.ids.DemandId.{DemandId}
use Rattle.plan_base.specs.declared.parts.Parts.{Parts}
use Rattle.arc_restrict.specs.Restrictions.{Forbidden}
use Rattle.path_pricing.specs.Faults.{priced_fault}
use Rattle.dual_versions.specs.declared.published.Published.{Published}
use Rattle.search_machine.specs.declared.answers.Offer.{Offer}

-- the offer is what a task asks for: this demand under this version of the node
pub record IsFor (node : BranchId) (version : ℕ) (demand : DemandId) (offer : Offer) : Type 0 where
  pub node_is : offer.node ≡ node
  pub version_is : offer.version ≡ version
  pub demand_is : offer.demand ≡ demand

-- the offer is of this version, and what was found has no fault under its prices and what is forbidden at its node
pub record IsFitting (p : Parts) (published : Published) (r : Forbidden) (offer : Offer) : Type 0 where
  pub node_is : offer.node ≡ published.node
  pub version_is : offer.version ≡ published.version
  pub fits : priced_fault p published.prices offer.demand.0 r offer.found ≡ None
