-- Which demand is the first at a node of which no permitted path keeps its limit.
use Rattle.std.proofs.Common.{◌≡◌, Option, Some, None}
use Rattle.std.specs.Prelude.{IfOk, IfSome, IfNone, Result, Ok, Err}
use Rattle.plan_base.specs.declared.ids.BranchId.{BranchId}
use Rattle.plan_base.specs.declared.ids.DemandId.{DemandId}
use Rattle.arc_restrict.specs.Restrictions.{Forbidden}
use Rattle.search_machine.specs.State.{State, restriction_of}
use Rattle.search_machine.specs.Readiness.{IsFirstFar, NoneFar}
use Rattle.search_view.specs.Examining.{IsReadyAt, IsNearAt, IsFarAt}

-- what is found of the node's rows is so of the node
module _ (s : State) (id : BranchId) (r : Forbidden) (at : IsReadyAt s id) (same : r ≡ restriction_of at.node) where
  far-at : (found : Option DemandId) → IfSome found (IsFirstFar s.problem r) → IfSome found (IsFarAt s id)
  far-at None far = tt
  far-at (Some demand) far = record { node = at.node; ready = at.ready; far = rw same at far }

  near-at : (found : Option DemandId) → IfNone found (NoneFar s.problem r) → IfNone found (IsNearAt s id)
  near-at None near = record { node = at.node; ready = at.ready; none_far = rw same at near }
  near-at (Some demand) near = tt

  -- a demand that is found to be the first far one under the node's restriction is so at the node
  pub far-ok : {E : Type 0} (result : Result (Option DemandId) E) → IfOk result (λ found. IfSome found (IsFirstFar s.problem r)) → IfOk result (λ found. IfSome found (IsFarAt s id))
  far-ok (Ok found) far = far-at found far
  far-ok (Err fault) far = tt

  -- where none is found to be far under the node's restriction, no demand is far at the node
  pub near-ok : {E : Type 0} (result : Result (Option DemandId) E) → IfOk result (λ found. IfNone found (NoneFar s.problem r)) → IfOk result (λ found. IfNone found (IsNearAt s id))
  near-ok (Ok found) near = near-at found near
  near-ok (Err fault) near = tt
