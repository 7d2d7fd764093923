-- What the status of a run says, from what was found and what was written.
use Rattle.std.proofs.Common.{◌≡◌, ◌+◌, ◌≤◌, ◌<◌, ◌⊎◌, ◌^◌, ℕ, List, [], take, Option, Some, None, Result, Ok, Err, refl, sym, subst, ◌∙◌, arith, inl, inr}
use Rattle.std.specs.Prelude.{IfOk, IfErr, IsSomeAnd}
use Rattle.std.specs.Option.{unwrap_or}
use Rattle.plan_io.specs.Causes.{Rose}
use Rattle.plan_base.specs.declared.parts.Parts.{Parts}
use Rattle.proof_tree.specs.declared.plan.Plan.{Plan}
use Rattle.plan_report.specs.declared.run_fault.RunFault.{RunFault}
use Rattle.plan_report.specs.declared.run_fault.RunFault.TheVariants as faults
use Rattle.plan_report.specs.Lines.{fault_line}
use Rattle.command_texts.specs.declared.answer.Answer.{Answer}
use Rattle.command_texts.specs.declared.status.Status.{Status}
use Rattle.command_texts.specs.declared.status.Status.TheVariants.{Good, Usage, BadText, Unsupported, OverLimit, ReadFault, WriteFault, OutOfMemory, Infeasible, Undecided, Rejected}
use Rattle.command_texts.specs.declared.stop.Stop.{Stop}
use Rattle.command_texts.specs.declared.stop.Stop.TheVariants as stops
use Rattle.command_texts.specs.Statuses.{refusal_status}
use Rattle.command_texts.specs.Texts.{Told, Texts, Begun, empty_texts, text_count}
use Rattle.command_texts.specs.Answers.{IsVerdict, accepted, rejected, IsWholeAnswer, IsWritten, whole, cut, wanting}
use Rattle.command_texts.specs.Refusals.{Counts, IsShownBy}
use Rattle.command_texts.proofs.Begins.{few-texts}
use Rattle.run_ends.specs.Ends.{IsAnswer, Says, IsTextRun, IsOwnEnd}
use Rattle.run_ends.specs.Found.{EndsSo, IsDoneFor, IsRefusalFor, IsResult, IsShownStop, IsFound}

-- ---- statuses of verdicts

-- a verdict has these statuses alone
pub verdict-ends : (parts : Parts) (plan : Option Plan) (status : Status) (bytes : List ℕ) → IsSomeAnd plan (λ made. IsVerdict parts made status bytes) → (status ≡ Good) ⊎ (status ≡ Rejected)
verdict-ends parts None status bytes is = absurd is
verdict-ends parts (Some plan) status bytes (accepted good is) = inl good
verdict-ends parts (Some plan) status bytes (rejected bad is) = inr bad

-- ---- statuses of refusals

-- no fault has the status of a write fault or of want of memory
refused-status : (fault : RunFault) → (refusal_status fault ≡ WriteFault → ⊥) × (refusal_status fault ≡ OutOfMemory → ⊥)
refused-status faults.Usage = (λ same. cc, λ same. cc)
refused-status (faults.Text file fault) = (λ same. cc, λ same. cc)
refused-status (faults.PlanText rule at) = (λ same. cc, λ same. cc)
refused-status (faults.LoopLink link) = (λ same. cc, λ same. cc)
refused-status (faults.LoopDemand demand) = (λ same. cc, λ same. cc)
refused-status (faults.Unsupported key value) = (λ same. cc, λ same. cc)
refused-status (faults.TooLong file) = (λ same. cc, λ same. cc)
refused-status (faults.OverLimit limit at) = (λ same. cc, λ same. cc)
refused-status (faults.Read file) = (λ same. cc, λ same. cc)

-- only the refusal of a text that could not be read has the status of a read fault
read-shown : (counts : Counts) (fault : RunFault) → ReadFault ≡ refusal_status fault → IsShownBy counts fault → Rose counts.faults_before counts.faults_now
read-shown counts faults.Usage same shown = absurd cc
read-shown counts (faults.Text file fault) same shown = absurd cc
read-shown counts (faults.PlanText rule at) same shown = absurd cc
read-shown counts (faults.LoopLink link) same shown = absurd cc
read-shown counts (faults.LoopDemand demand) same shown = absurd cc
read-shown counts (faults.Unsupported key value) same shown = absurd cc
read-shown counts (faults.TooLong file) same shown = absurd cc
read-shown counts (faults.OverLimit limit at) same shown = absurd cc
read-shown counts (faults.Read file) same shown = shown

-- words that are not read have the status of the usage line, and no other
usage-only : (usage_line : List ℕ) (shelf : Told) (begun : ℕ) (fault : RunFault) → IsRefusalFor usage_line None shelf begun fault → (fault ≡ faults.Usage) × (begun ≡ 0) × (fault_line fault ≡ usage_line)
usage-only usage_line shelf begun faults.Usage refused = (refl, refused.0, refused.1)
usage-only usage_line shelf begun (faults.Text file fault) refused = absurd refused
usage-only usage_line shelf begun (faults.PlanText rule at) refused = absurd refused
usage-only usage_line shelf begun (faults.LoopLink link) refused = absurd refused
usage-only usage_line shelf begun (faults.LoopDemand demand) refused = absurd refused
usage-only usage_line shelf begun (faults.Unsupported key value) refused = absurd refused
usage-only usage_line shelf begun (faults.TooLong file) refused = absurd refused
usage-only usage_line shelf begun (faults.OverLimit limit at) refused = absurd refused
usage-only usage_line shelf begun (faults.Read file) refused = absurd refused

rise : (begun before now : ℕ) (names : Option Texts) → begun ≤ text_count (unwrap_or names empty_texts) → Begun begun before now → before < 2 ^ 62 → now ≡ before + begun
rise begun before now names few rises below = rises.exact (omega (arith, few, few-texts (unwrap_or names empty_texts)))

module _ (usage_line : List ℕ) (Done : Texts → Status → List ℕ → Type 0) (names : Option Texts) (shelf : Told) (counts : Counts) where
  -- ---- whole texts

  refused-answer : (named : Option Texts) (begun : ℕ) (fault : RunFault) (status : Status) (bytes : List ℕ) → IsShownBy counts fault → IsRefusalFor usage_line named shelf begun fault
      → (status ≡ refusal_status fault) × (bytes ≡ fault_line fault) → IsAnswer usage_line Done named shelf counts begun status bytes
  refused-answer None begun fault status bytes seen refused is =
      let only = usage-only usage_line shelf begun fault refused in
      (only.1, subst (λ (f : RunFault). status ≡ refusal_status f) only.0 is.0, is.1 ∙ only.2)
  refused-answer (Some texts) begun fault status bytes seen refused is = inl record { fault = fault; refusal = refused; shown = seen; is_status = is.0; line = is.1 }

  done-answer : (named : Option Texts) (begun : ℕ) (status : Status) (bytes : List ℕ) → IsDoneFor usage_line Done named shelf begun status bytes → IsAnswer usage_line Done named shelf counts begun status bytes
  done-answer None begun status bytes done = (done.0, done.1.0, done.1.1)
  done-answer (Some texts) begun status bytes done = inr done

  -- a whole text is that of an answer
  answer-of : (begun : ℕ) (found : Result Answer Stop) (status : Status) (text : List ℕ) → IfErr found (λ stop. IsShownStop counts stop) → IsResult usage_line Done names shelf begun found
      → IsWholeAnswer found status text → IsAnswer usage_line Done names shelf counts begun status text
  answer-of begun (Ok answer) status text seen done is = rw (is.0, is.1) (done-answer names begun answer.status answer.text.items done)
  answer-of begun (Err (stops.Refused fault)) status text seen refused is = refused-answer names begun fault status text seen refused is
  answer-of begun (Err stops.OutOfMemory) status text seen found is = absurd is

  -- ---- statuses of answers

  module _ (IsEndOfWork : Status → Type 0) (ends : EndsSo IsEndOfWork Done) where
    usage-not : (status : Status) → status ≡ Usage → (status ≡ ReadFault → ⊥) × (status ≡ WriteFault → ⊥) × (status ≡ OutOfMemory → ⊥)
    usage-not status is = (λ same. let no : ◌≡◌ {A = Status} Usage ReadFault = sym is ∙ same in absurd cc, λ same. let no : ◌≡◌ {A = Status} Usage WriteFault = sym is ∙ same in absurd cc, λ same. let no : ◌≡◌ {A = Status} Usage OutOfMemory = sym is ∙ same in absurd cc)

    -- work that is done has not the status of a fault of the outside or of want of memory
    done-not : (named : Option Texts) (begun : ℕ) (status : Status) (bytes : List ℕ) → IsDoneFor usage_line Done named shelf begun status bytes → (status ≡ ReadFault → ⊥) × (status ≡ WriteFault → ⊥) × (status ≡ OutOfMemory → ⊥)
    done-not None begun status bytes done = usage-not status done.1.0
    done-not (Some texts) begun status bytes done = let is : IsEndOfWork status = ends.ends done.texts status bytes done.holds in
        (λ same. ends.no_read (subst IsEndOfWork same is), λ same. ends.no_write (subst IsEndOfWork same is), λ same. ends.no_memory (subst IsEndOfWork same is))

    answer-own : (named : Option Texts) (begun : ℕ) (status : Status) (bytes : List ℕ) → IsAnswer usage_line Done named shelf counts begun status bytes → (status ≡ WriteFault → ⊥) × (status ≡ OutOfMemory → ⊥)
    answer-own None begun status bytes is = let not = usage-not status is.1 in (not.1, not.2)
    answer-own (Some texts) begun status bytes (inl refused) = (λ same. (refused-status refused.fault).0 (sym refused.is_status ∙ same), λ same. (refused-status refused.fault).1 (sym refused.is_status ∙ same))
    answer-own (Some texts) begun status bytes (inr done) = let not = done-not (Some texts) begun status bytes done in (not.1, not.2)

    -- an answer with its status and whole text is what the status says
    says-answer : (begun : ℕ) (status : Status) (bytes : List ℕ) → IsAnswer usage_line Done names shelf counts begun status bytes → Says usage_line Done names shelf counts begun status bytes
    says-answer begun Good bytes is = is
    says-answer begun Usage bytes is = is
    says-answer begun BadText bytes is = is
    says-answer begun Unsupported bytes is = is
    says-answer begun OverLimit bytes is = is
    says-answer begun ReadFault bytes is = is
    says-answer begun Infeasible bytes is = is
    says-answer begun Rejected bytes is = is
    says-answer begun Undecided bytes is = is
    says-answer begun WriteFault bytes is = absurd ((answer-own names begun WriteFault bytes is).0 refl)
    says-answer begun OutOfMemory bytes is = absurd ((answer-own names begun OutOfMemory bytes is).1 refl)

    -- ---- what was found and written

    module _ (begins_before begins_now : ℕ) (found : Result Answer Stop) (h : IsFound usage_line Done names shelf counts begins_before begins_now found) where
      -- what was found, once it is written or fails to be, is a run of the named texts, of which its status says so
      pub run_says : (before now : Option (List ℕ)) (status : Status) → IsWritten found before now status → IsTextRun usage_line Done names shelf counts begins_before begins_now before now status
      run_says before now status (whole text is appends) = record {
        begun = h.begun;
        bytes = text;
        rise = rise h.begun begins_before begins_now names h.few h.rises;
        says = says-answer h.begun status text (answer-of h.begun found status text h.shown h.is is);
        written = appends;
      }
      run_says before now status (cut other text written is short appends same) = rw same record {
        begun = h.begun;
        bytes = take written text;
        rise = rise h.begun begins_before begins_now names h.few h.rises;
        says = record { status = other; whole = text; written = written; answer = answer-of h.begun found other text h.shown h.is is; cut = short; front = refl };
        written = appends;
      }
      run_says before now status (wanting same appends) = rw same record {
        begun = h.begun;
        bytes = [];
        rise = rise h.begun begins_before begins_now names h.few h.rises;
        says = (h.few, refl);
        written = appends;
      }

    -- ---- faults of the outside

    ok-not-write : (begun : ℕ) (found : Result Answer Stop) → IsResult usage_line Done names shelf begun found → IfOk found (λ answer. answer.status ≡ WriteFault → ⊥)
    ok-not-write begun (Ok answer) done = (done-not names begun answer.status answer.text.items done).1
    ok-not-write begun (Err stop) refused = tt

    -- what was found has not the status of a write fault
    pub no_write_fault : (before now : ℕ) (found : Result Answer Stop) → IsFound usage_line Done names shelf counts before now found → IfOk found (λ answer. answer.status ≡ WriteFault → ⊥)
    no_write_fault before now found h = ok-not-write h.begun found h.is

    read-whole : (begun : ℕ) (found : Result Answer Stop) (status : Status) (text : List ℕ) → IsResult usage_line Done names shelf begun found → IfErr found (λ stop. IsShownStop counts stop)
        → IsWholeAnswer found status text → status ≡ ReadFault → Rose counts.faults_before counts.faults_now
    read-whole begun (Ok answer) status text done seen is same = absurd ((done-not names begun answer.status answer.text.items done).0 (sym is.0 ∙ same))
    read-whole begun (Err (stops.Refused fault)) status text refused seen is same = read-shown counts fault (sym same ∙ is.0) seen
    read-whole begun (Err stops.OutOfMemory) status text found seen is same = absurd is

    -- a run ends with a read fault only where the shelf's faults rose
    pub read_rose : (begins_before begins_now : ℕ) (found : Result Answer Stop) (before now : Option (List ℕ)) (status : Status)
        → IsFound usage_line Done names shelf counts begins_before begins_now found → IsWritten found before now status → status ≡ ReadFault → Rose counts.faults_before counts.faults_now
    read_rose begins_before begins_now found before now status h (whole text is appends) same = read-whole h.begun found status text h.is h.shown is same
    read_rose begins_before begins_now found before now status h (cut other text written is short appends bad) same = let no : ◌≡◌ {A = Status} ReadFault WriteFault = sym same ∙ bad in absurd cc
    read_rose begins_before begins_now found before now status h (wanting bad appends) same = let no : ◌≡◌ {A = Status} ReadFault OutOfMemory = sym same ∙ bad in absurd cc

    -- ---- complete

    own-fault : (texts : Texts) (fault : RunFault) (begun : ℕ) → IsRefusalFor usage_line (Some texts) shelf begun fault → IsOwnEnd IsEndOfWork (Some texts) (refusal_status fault) ⊎ (refusal_status fault ≡ ReadFault)
    own-fault texts faults.Usage begun refused = absurd refused.holds
    own-fault texts (faults.Text file fault) begun refused = inl (inr (inl refl))
    own-fault texts (faults.PlanText rule at) begun refused = inl (inr (inl refl))
    own-fault texts (faults.LoopLink link) begun refused = inl (inr (inl refl))
    own-fault texts (faults.LoopDemand demand) begun refused = inl (inr (inl refl))
    own-fault texts (faults.Unsupported key value) begun refused = inl (inr (inr (inl refl)))
    own-fault texts (faults.TooLong file) begun refused = inl (inr (inr (inr (inl refl))))
    own-fault texts (faults.OverLimit limit at) begun refused = inl (inr (inr (inr (inl refl))))
    own-fault texts (faults.Read file) begun refused = inr refl

    own-refusal : (named : Option Texts) (fault : RunFault) (begun : ℕ) → IsRefusalFor usage_line named shelf begun fault → IsOwnEnd IsEndOfWork named (refusal_status fault) ⊎ (refusal_status fault ≡ ReadFault)
    own-refusal None fault begun refused = let is : fault ≡ faults.Usage = (usage-only usage_line shelf begun fault refused).0 in rw is (inl (inl refl))
    own-refusal (Some texts) fault begun refused = own-fault texts fault begun refused

    own-done : (named : Option Texts) (begun : ℕ) (status : Status) (bytes : List ℕ) → IsDoneFor usage_line Done named shelf begun status bytes → IsOwnEnd IsEndOfWork named status
    own-done None begun status bytes done = inl done.1.0
    own-done (Some texts) begun status bytes done = inl (ends.ends done.texts status bytes done.holds)

    own-whole : (begun : ℕ) (found : Result Answer Stop) (status : Status) (text : List ℕ) → IsResult usage_line Done names shelf begun found → IsWholeAnswer found status text → IsOwnEnd IsEndOfWork names status ⊎ (status ≡ ReadFault)
    own-whole begun (Ok answer) status text done is = inl (rw is.0 (own-done names begun answer.status answer.text.items done))
    own-whole begun (Err (stops.Refused fault)) status text refused is = rw is.0 (own-refusal names fault begun refused)
    own-whole begun (Err stops.OutOfMemory) status text found is = absurd is

    own-memory : (named : Option Texts) (status : Status) → status ≡ OutOfMemory → IsOwnEnd IsEndOfWork named status
    own-memory None status same = inr same
    own-memory (Some texts) status same = inr (inr (inr (inr same)))

    or-rose : {A B C : Type 0} (status : Status) → (status ≡ ReadFault → B) → A ⊎ (status ≡ ReadFault) → A ⊎ B ⊎ C
    or-rose status read (inl own) = inl own
    or-rose status read (inr is) = inr (inl (read is))

    -- a run has its own end, unless something outside failed
    pub own_end : {SinkRose : Type 0} (begins_before begins_now : ℕ) (found : Result Answer Stop) (before now : Option (List ℕ)) (status : Status)
        → IsFound usage_line Done names shelf counts begins_before begins_now found → IsWritten found before now status → (status ≡ WriteFault → SinkRose)
        → IsOwnEnd IsEndOfWork names status ⊎ Rose counts.faults_before counts.faults_now ⊎ SinkRose
    own_end begins_before begins_now found before now status h (whole text is appends) write =
        or-rose status (read-whole h.begun found status text h.is h.shown is) (own-whole h.begun found status text h.is is)
    own_end begins_before begins_now found before now status h (cut other text written is short appends same) write = inr (inr (write same))
    own_end begins_before begins_now found before now status h (wanting same appends) write = inl (own-memory names status same)
