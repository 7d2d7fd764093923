-- Where the texts of a command are supported, nothing refuses them.
use Rattle.std.proofs.Common.{◌≡◌, ◌<◌, ◌≤◌, ◌⊎◌, ℕ, List, length, Option, Some, None, option_map, refl, subst, ◌∙◌, arith, inl, inr}
use Rattle.std.specs.Prelude.{IfSome, IsSomeAnd}
use Rattle.plan_report.specs.declared.run_fault.FileKind.{FileKind}
use Rattle.plan_report.specs.declared.run_fault.FileKind.TheVariants as files
use Rattle.plan_report.specs.declared.run_fault.RunFault.{RunFault}
use Rattle.plan_report.specs.declared.run_fault.RunFault.TheVariants as faults
use Rattle.plan_report.specs.Lines.{fault_line}
use Rattle.command_words.specs.declared.command.Command.{Command}
use Rattle.command_words.specs.Words.{Word}
use Rattle.command_texts.specs.declared.status.Status.{Status}
use Rattle.command_texts.specs.declared.status.Status.TheVariants.{Good, Usage, BadText, Unsupported, OverLimit, ReadFault, WriteFault, OutOfMemory, Infeasible, Undecided, Rejected}
use Rattle.command_texts.specs.Statuses.{refusal_status}
use Rattle.command_texts.specs.Texts.{Text, Name, Told, Texts, most_bytes, IsKindRead, HoldsOfTexts}
use Rattle.command_texts.specs.Refusals.{AreRefused, IsTooLong, IsRefusalOf, Counts}
use Rattle.command_texts.specs.OneAnswer.{Below}
use Rattle.command_texts.proofs.OneRefusal.{refused_or_read}
use Rattle.run_ends.specs.Ends.{IsAnswer, Says}
use Rattle.plan_run.specs.Runs.{texts_of_command, IsWorkDone}
use Rattle.plan_run.specs.Supports.{IsKindTold, AreToldWell, AreSupported, EndsWith, SaysOf}
use Rattle.plan_run.proofs.WorkEnds.{done-ends}

-- a text that was read is the one that is told
one-text : (told : Option Text) (text other : Text) → told ≡ Some other → IfSome told (λ t. text ≡ t) → text ≡ other
one-text told text other is h = subst (λ (o : Option Text). IfSome o (λ t. text ≡ t)) is h

one-kind : (shelf : Told) (file : FileKind) (name : Option Name) (text other : Option Text) → IsKindTold shelf file name other → IsKindRead shelf file name text → text ≡ other
one-kind shelf file None None None told read = refl
one-kind shelf file None None (Some other) told read = absurd told
one-kind shelf file None (Some text) other told read = absurd read
one-kind shelf file (Some name) None other told read = absurd read
one-kind shelf file (Some name) (Some text) None told read = absurd told
one-kind shelf file (Some name) (Some text) (Some other) told read = rw (one-text (shelf name) text other told.told read.told) refl

same-texts : (a b : Texts) → a.network ≡ b.network → a.model ≡ b.model → a.plan ≡ b.plan → a ≡ b
same-texts a b one two three =
    let whole : ◌≡◌ {A = Texts} (record { network = a.network; model = a.model; plan = a.plan }) (record { network = b.network; model = b.model; plan = b.plan }) = rw (one, two, three) refl in whole

-- a text that is told within its limit is not too long
short : (told : Option Text) (text : Text) (most : ℕ) → told ≡ Some text → length text ≤ most → IfSome told (λ t. most < length t) → ⊥
short told text most is within longer =
    let more : most < length text = subst (λ (o : Option Text). IfSome o (λ t. most < length t)) is longer in omega arith

short-kind : (shelf : Told) (file : FileKind) (name : Name) (text : Option Text) → IsKindTold shelf file (Some name) text → IfSome (shelf name) (λ told. most_bytes file < length told) → ⊥
short-kind shelf file name None told longer = told
short-kind shelf file name (Some text) told longer = short (shelf name) text (most_bytes file) told.told told.within longer

not-long : (shelf : Told) (names : Texts) (begun : ℕ) (file : FileKind) → (s : AreToldWell shelf names) → IsTooLong shelf names begun file → ⊥
not-long shelf names begun files.Network s long = short-kind shelf files.Network long.name s.texts.network (subst (λ (n : Option Name). IsKindTold shelf files.Network n s.texts.network) long.named s.network_told) long.longer
not-long shelf names begun files.Model s long = short-kind shelf files.Model long.name s.texts.model (subst (λ (n : Option Name). IsKindTold shelf files.Model n s.texts.model) long.named s.model_told) long.longer
not-long shelf names begun files.Plan s long = short-kind shelf files.Plan long.name s.texts.plan (subst (λ (n : Option Name). IsKindTold shelf files.Plan n s.texts.plan) long.named s.plan_told) long.longer

-- ---- nothing is refused

not-refused : Below → (shelf : Told) (names : Texts) (begun : ℕ) (fault : RunFault) → (s : AreToldWell shelf names) → HoldsOfTexts shelf names begun (λ texts. AreRefused texts fault) → ⊥
not-refused below shelf names begun fault s h =
    let same : h.texts ≡ s.texts = same-texts h.texts s.texts
    (one-kind shelf files.Network names.network h.texts.network s.texts.network s.network_told h.read.network_read)
    (one-kind shelf files.Model names.model h.texts.model s.texts.model s.model_told h.read.model_read)
    (one-kind shelf files.Plan names.plan h.texts.plan s.texts.plan s.plan_told h.read.plan_read) in
    refused_or_read below s.texts fault (subst (λ (t : Texts). AreRefused t fault) same h.holds) s.good

-- the texts are refused for a read fault alone
only-read : Below → (shelf : Told) (names : Texts) (begun : ℕ) (fault : RunFault) → AreToldWell shelf names → IsRefusalOf names shelf begun fault → refusal_status fault ≡ ReadFault
only-read below shelf names begun faults.Usage s refusal = absurd refusal.holds
only-read below shelf names begun (faults.Read file) s refusal = refl
only-read below shelf names begun (faults.TooLong file) s refusal = absurd (not-long shelf names begun file s refusal)
only-read below shelf names begun (faults.Text file fault) s refusal = absurd (not-refused below shelf names begun (faults.Text file fault) s refusal)
only-read below shelf names begun (faults.PlanText rule at) s refusal = absurd (not-refused below shelf names begun (faults.PlanText rule at) s refusal)
only-read below shelf names begun (faults.LoopLink link) s refusal = absurd (not-refused below shelf names begun (faults.LoopLink link) s refusal)
only-read below shelf names begun (faults.LoopDemand demand) s refusal = absurd (not-refused below shelf names begun (faults.LoopDemand demand) s refusal)
only-read below shelf names begun (faults.Unsupported key value) s refusal = absurd (not-refused below shelf names begun (faults.Unsupported key value) s refusal)
only-read below shelf names begun (faults.OverLimit limit at) s refusal = absurd (not-refused below shelf names begun (faults.OverLimit limit at) s refusal)

-- ---- an answer to supported texts

-- how supported texts may end
abbrev EndsFor : Command Word → Status → Type 0
EndsFor command status = EndsWith command status ⊎ (status ≡ ReadFault) ⊎ (status ≡ WriteFault) ⊎ (status ≡ OutOfMemory)

answer-ends : Below → (shelf : Told) (counts : Counts) (begun : ℕ) (command : Command Word) (status : Status) (bytes : List ℕ) → AreToldWell shelf (texts_of_command command)
    → IsAnswer (fault_line faults.Usage) (IsWorkDone command) (Some (texts_of_command command)) shelf counts begun status bytes → EndsFor command status
answer-ends below shelf counts begun command status bytes s (inl refused) =
    inr (inl (refused.is_status ∙ only-read below shelf (texts_of_command command) begun refused.fault s refused.refusal))
answer-ends below shelf counts begun command status bytes s (inr done) = inl (done-ends command done.texts status bytes done.holds)

says-ends : Below → (shelf : Told) (counts : Counts) (begun : ℕ) (command : Command Word) (status : Status) (bytes : List ℕ) → AreToldWell shelf (texts_of_command command)
    → Says (fault_line faults.Usage) (IsWorkDone command) (Some (texts_of_command command)) shelf counts begun status bytes → EndsFor command status
says-ends below shelf counts begun command WriteFault bytes s says = inr (inr (inl refl))
says-ends below shelf counts begun command OutOfMemory bytes s says = inr (inr (inr refl))
says-ends below shelf counts begun command ReadFault bytes s says = inr (inl refl)
says-ends below shelf counts begun command Good bytes s says = answer-ends below shelf counts begun command Good bytes s says
says-ends below shelf counts begun command Usage bytes s says = answer-ends below shelf counts begun command Usage bytes s says
says-ends below shelf counts begun command BadText bytes s says = answer-ends below shelf counts begun command BadText bytes s says
says-ends below shelf counts begun command Unsupported bytes s says = answer-ends below shelf counts begun command Unsupported bytes s says
says-ends below shelf counts begun command OverLimit bytes s says = answer-ends below shelf counts begun command OverLimit bytes s says
says-ends below shelf counts begun command Infeasible bytes s says = answer-ends below shelf counts begun command Infeasible bytes s says
says-ends below shelf counts begun command Undecided bytes s says = answer-ends below shelf counts begun command Undecided bytes s says
says-ends below shelf counts begun command Rejected bytes s says = answer-ends below shelf counts begun command Rejected bytes s says

-- texts that are supported are not refused: the work is done, or reading, writing or memory fails
pub done_where_supported : Below → (words : List Word) (shelf : Told) (counts : Counts) (begun : ℕ) (command : Command Word) (status : Status) (bytes : List ℕ) → AreSupported words shelf command
    → SaysOf words shelf counts begun status bytes → EndsFor command status
done_where_supported below words shelf counts begun command status bytes s says =
    says-ends below shelf counts begun command status bytes s.texts
    (subst (λ (o : Option (Command Word)). Says (fault_line faults.Usage) (λ texts status bytes. IsSomeAnd o (λ c. IsWorkDone c texts status bytes)) (option_map texts_of_command o) shelf counts begun status bytes) s.asked says)
