-- What an answer of the check says of the plan.
use Rattle.std.proofs.Common.{◌≡◌, ◌≢◌, ◌⊎◌, inl, inr, Some, None, Result, Ok, Err, refl}
use Rattle.std.specs.Prelude.{IfOk, IfErr}
use Rattle.std.specs.Result.{result_err}
use Rattle.plan_base.specs.declared.parts.Parts.{Parts}
use Rattle.proof_tree.specs.declared.plan.Plan.{Plan}
use Rattle.proof_tree.specs.Plans.{IsValidPlan, HasItsClaim}
use Rattle.proof_tree.specs.Spellings.{IsSpellable}
use Rattle.proof_tree.proofs.RatedClaiming.{valid_plan-claim}
use Rattle.cert_verifier.specs.declared.rejected.Rejected.{Rejected}
use Rattle.cert_verifier.specs.declared.rejected.Rejected.TheVariants.{Design, Cost, Cuts, Split, Leaf, Counts, Bound, Kind, OutOfMemory, Size, Budget}
use Rattle.cert_verifier.specs.Told.{Tells}
use Rattle.cert_verifier.specs.PlanRules.{PlanFinds, IsRejection}
use Rattle.cert_verifier.proofs.PlanLaws.{none_is_valid, valid_is_none, one_found}

-- a fault is want of memory or it is not
is_memory : (fault : Rejected) → (fault ≡ OutOfMemory) ⊎ (fault ≢ OutOfMemory)
is_memory OutOfMemory = inl refl
is_memory (Design fault) = inr (λ e. cc)
is_memory (Cost stated found) = inr (λ e. cc)
is_memory (Cuts index) = inr (λ e. cc)
is_memory (Split index rule) = inr (λ e. cc)
is_memory (Leaf index rule) = inr (λ e. cc)
is_memory (Counts stated found) = inr (λ e. cc)
is_memory (Bound stated found) = inr (λ e. cc)
is_memory (Kind index) = inr (λ e. cc)
is_memory Size = inr (λ e. cc)
is_memory (Budget examined budget) = inr (λ e. cc)

-- a plan that the check accepts is valid
pub answer-valid : {T : Type 0} (p : Parts) (plan : Plan) (answer : Result T Rejected) → IsSpellable plan → Tells (PlanFinds p plan) (result_err answer) → IfOk answer (λ _. IsValidPlan p plan)
answer-valid p plan (Ok x) spelled h = none_is_valid p plan spelled (h (λ e. cc))
answer-valid p plan (Err fault) spelled h = tt

-- the claim of a plan that the check accepts is so
pub answer-claim : {T : Type 0} (p : Parts) (plan : Plan) (answer : Result T Rejected) → IsSpellable plan → Tells (PlanFinds p plan) (result_err answer) → IfOk answer (λ _. HasItsClaim p plan)
answer-claim p plan (Ok x) spelled h = valid_plan-claim p plan (none_is_valid p plan spelled (h (λ e. cc)))
answer-claim p plan (Err fault) spelled h = tt

-- a fault that the check tells is the first broken rule of the plan, or want of memory
pub answer-fault : {T : Type 0} (p : Parts) (plan : Plan) (answer : Result T Rejected) → Tells (PlanFinds p plan) (result_err answer) → IfErr answer (IsRejection p plan)
answer-fault p plan (Ok x) h = tt
answer-fault p plan (Err fault) h = λ other. h (λ e. other cc)

-- of a valid plan the check tells no fault but want of memory
pub answer-accepted : {T : Type 0} (p : Parts) (plan : Plan) (answer : Result T Rejected) → Tells (PlanFinds p plan) (result_err answer) → IsValidPlan p plan → IfErr answer (λ fault. fault ≡ OutOfMemory)
answer-accepted p plan (Ok x) h valid = tt
answer-accepted p plan (Err fault) h valid = elim (is_memory fault) [
  | inl is ↦ is
  | inr other ↦ absurd (let bad : Some fault ≡ None = one_found p plan (Some fault) None (h (λ e. other cc)) (valid_is_none p plan valid) in cc)
]
