-- The groups of rules of a plan, one after the other, as a check goes through them.
use Rattle.std.proofs.Common.{◌≡◌, ℕ, ◌+◌, length, All, Option, Some, None, inl, inr, refl, ap₂, subst}
use Rattle.plan_base.specs.declared.parts.Parts.{Parts}
use Rattle.plan_base.specs.Places.{places}
use Rattle.proof_tree.specs.declared.plan.Plan.{Plan}
use Rattle.proof_tree.specs.Plans.{HasSizes}
use Rattle.proof_tree.specs.Spellings.{places_in, numbers_in, FitsRecord, IsSpellable}
use Rattle.cert_verifier.specs.declared.rejected.Rejected.{Rejected}
use Rattle.cert_verifier.specs.declared.rejected.Rejected.TheVariants.{Size}
use Rattle.cert_verifier.specs.RecordRules.{TreeFinds}
use Rattle.cert_verifier.specs.PlanRules.{DesignFinds, CutsFind, CountsFind, BoundFinds, PlanFinds}

-- where the sizes are not those of the instance, this is told of the plan
pub plan-size : (p : Parts) (plan : Plan) → (HasSizes p plan → ⊥) → PlanFinds p plan (Some Size)
unfolding PlanFinds
plan-size p plan broken = inl (refl, inr (broken, refl))

-- where the sizes are right, what is wrong with the design or its cost is told of the plan
pub plan-design : (p : Parts) (plan : Plan) (fault : Rejected) → HasSizes p plan → DesignFinds p plan.design (Some fault) → PlanFinds p plan (Some fault)
unfolding PlanFinds
plan-design p plan fault sizes found = inr (inl (sizes, refl), inl (refl, found))

-- where the sizes and the design are right, what is wrong with the cuts is told of the plan
pub plan-cuts : (p : Parts) (plan : Plan) (fault : Rejected) → HasSizes p plan → DesignFinds p plan.design None → CutsFind p plan.cuts (length plan.cuts) (Some fault) → PlanFinds p plan (Some fault)
unfolding PlanFinds
plan-cuts p plan fault sizes design found = inr (inl (sizes, refl), inr (design, inl (refl, found)))

-- where all before the tree is right, what is wrong with a record is told of the plan
pub plan-tree : (p : Parts) (plan : Plan) (fault : Rejected) → HasSizes p plan → DesignFinds p plan.design None → CutsFind p plan.cuts (length plan.cuts) None → TreeFinds p plan plan.tree (Some fault) → PlanFinds p plan (Some fault)
unfolding PlanFinds
plan-tree p plan fault sizes design cuts found = inr (inl (sizes, refl), inr (design, inr (cuts, inl (refl, found))))

-- what is before the count breaks no rule
pub record IsSoundTree (p : Parts) (plan : Plan) : Type 0 where
  pub sizes : HasSizes p plan
  pub design : DesignFinds p plan.design None
  pub cuts : CutsFind p plan.cuts (length plan.cuts) None
  pub tree : TreeFinds p plan plan.tree None

-- where all up to the tree is right, what is wrong with an open leaf, the count or the budget is told of the plan
pub plan-counts : (p : Parts) (plan : Plan) (fault : Rejected) → IsSoundTree p plan → CountsFind plan (Some fault) → PlanFinds p plan (Some fault)
unfolding PlanFinds
plan-counts p plan fault h found = inr (inl (h.sizes, refl), inr (h.design, inr (h.cuts, inr (h.tree, inl (refl, found)))))

-- where all before the bound is right, what is found of the bound is found of the plan
pub plan-bound : (p : Parts) (plan : Plan) (found : Option Rejected) → IsSoundTree p plan → CountsFind plan None → BoundFinds p plan plan.status found → PlanFinds p plan found
unfolding PlanFinds
plan-bound p plan found h counts bound = inr (inl (h.sizes, refl), inr (h.design, inr (h.cuts, inr (h.tree, inr (counts, bound)))))

-- the records of a plan of the instance's sizes have a price for each of its places and a rate for each cut
pub fits_numbers : (p : Parts) (plan : Plan) → HasSizes p plan → IsSpellable plan → All (FitsRecord p.nodes (places p + length plan.cuts)) plan.tree
fits_numbers p plan sizes spelled =
    let count : places_in plan.both plan.links ≡ places p = ap₂ places_in sizes.both sizes.links in
    subst (λ (n : ℕ). All (FitsRecord p.nodes (n + length plan.cuts)) plan.tree) count
    (subst (λ (n : ℕ). All (FitsRecord n (numbers_in plan)) plan.tree) sizes.nodes spelled.records.each)
