-- The plan of a demand whose paths are all too long is valid, and with a limit of one arc more it is not.
use Rattle.std.proofs.Common.{◌≡◌, ℕ, ◌<◌, List, [], ◌∷◌, length, refl, arith, lit≤}
use Rattle.plan_base.specs.declared.ids.ArcId.{ArcId}
use Rattle.plan_base.specs.DesignFaults.{step_fault, path_fault}
use Rattle.arc_restrict.specs.Restrictions.{none_forbidden, IsPermittedPath}
use Rattle.proof_tree.specs.Evidence.{ClosedByFar}
use Rattle.proof_tree.specs.Plans.{IsValidPlan}
use Rattle.proof_tree.specs.Triangle.{arc, limited_triangle, far_plan}
use Rattle.proof_tree.proofs.WorkedPaths.{first_demand, one_arc-permitted}
use Rattle.proof_tree.proofs.WorkedPlans.{infeasible-valid}

-- a path from a to c has an arc
some_arc : (limit : ℕ) (arcs : List ArcId) → IsPermittedPath (limited_triangle limit) none_forbidden 0 arcs → 0 < length arcs
some_arc limit [] h = absurd (let bad : 0 ≡ 2 = h.simple.ends_at_target in omega arith)
some_arc limit (a ∷ rest) h = omega arith

-- where the path of the demand may have no arc, the plan with one leaf that the limit closes is valid
pub far-valid : IsValidPlan (limited_triangle 0) far_plan
far-valid = infeasible-valid (limited_triangle 0) 1 far_plan.tree (record { examined_is = refl; within_budget = lit≤ tt; closed = refl }) refl (record { demand = omega arith; far = some_arc 0 }, tt)

-- the direct link
one_arc : IsPermittedPath (limited_triangle 1) none_forbidden 0 (arc 4 ∷ [])
unfolding path_fault step_fault
one_arc = one_arc-permitted (limited_triangle 1) none_forbidden 0 4 refl refl

-- where the path of the demand may have one arc, the same plan is not valid
pub one_arc-refused : IsValidPlan (limited_triangle 1) far_plan → ⊥
one_arc-refused valid =
    let closed : ClosedByFar (limited_triangle 1) none_forbidden first_demand = valid.tree.0 in
    let longer : 1 < 1 = closed.far (arc 4 ∷ []) one_arc in
    omega arith
