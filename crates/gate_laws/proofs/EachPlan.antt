-- Each text spells a plan, or has a fault other than want of memory.
use Rattle.std.proofs.Common.{◌≡◌, ℕ, ◌⊎◌, inl, inr, List, [], ◌∷◌, length, refl}
use Rattle.std.specs.Prelude.{◌≢◌, Result, Ok, Err}
use Rattle.proof_tree.specs.declared.plan.Plan.{Plan}
use Rattle.plan_tokens.specs.Lines.{Line, lines_of}
use Rattle.cert_format.specs.declared.fault.PlanFault.{PlanFault}
use Rattle.cert_format.specs.declared.fault.PlanFault.TheVariants as faults
use Rattle.cert_format.specs.Grammar.{SpellsPlan}
use Rattle.cert_format.specs.Faults.{IsFault}
use Rattle.cert_format.specs.Reading.{whole_plan, read_as, plan_of}
use Rattle.cert_format.proofs.OneFault.{answers_plan, answers_fault}

abbrev IsSpeltOrFaulty : List ℕ → Type 0
IsSpeltOrFaulty text = ((plan : Plan) × SpellsPlan text plan) ⊎ ((fault : PlanFault) × (fault ≢ faults.OutOfMemory) × IsFault text fault)

abbrev failed : PlanFault → Result Plan PlanFault
failed fault = Err fault

by-lines : (count : ℕ) (read : Result Plan (List Line)) → read_as count read ≡ failed faults.OutOfMemory → ⊥
by-lines count (Ok plan) is = absurd cc
by-lines count (Err []) is = absurd cc
by-lines count (Err (l ∷ ls)) is = absurd cc

-- no text is read as one for which memory is wanting
never-memory : (text : List ℕ) → plan_of text ≡ failed faults.OutOfMemory → ⊥
unfolding plan_of
never-memory text is = by-lines (length text) (whole_plan (lines_of text)) is

of-read : (text : List ℕ) (read : Result Plan PlanFault) → plan_of text ≡ read → IsSpeltOrFaulty text
of-read text (Ok plan) is = inl (plan, answers_plan text (Ok plan) is)
of-read text (Err (faults.Line at)) is = inr (faults.Line at, (λ same. absurd cc), answers_fault text (Err (faults.Line at)) is)
of-read text (Err (faults.Ended at)) is = inr (faults.Ended at, (λ same. absurd cc), answers_fault text (Err (faults.Ended at)) is)
of-read text (Err faults.OutOfMemory) is = absurd (never-memory text is)

-- each text spells a plan, or has a fault other than want of memory
pub plan_or_fault : (text : List ℕ) → IsSpeltOrFaulty text
plan_or_fault text = of-read text (plan_of text) refl
