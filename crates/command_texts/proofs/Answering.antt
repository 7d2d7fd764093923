-- What is written of a problem is what is written of the texts that spell it.
use Rattle.std.proofs.Common.{ℕ, ◌≡◌, ◌<◌, List, length, take, Option, Some, None, Result, Err, refl}
use Rattle.std.specs.Io.KnownBytes.{Appends}
use Rattle.plan_io.specs.Causes.{Rose}
use Rattle.plan_io.specs.declared.shelf.Shelf.{Ghosts}
use Rattle.plan_base.specs.declared.parts.Parts.{Parts}
use Rattle.snd_network.specs.declared.file.NetworkFile.{NetworkFile}
use Rattle.proof_tree.specs.declared.plan.Plan.{Plan}
use Rattle.plan_report.specs.Reports.{IsReadFrom}
use Rattle.plan_report.specs.declared.run_fault.RunFault.{RunFault}
use Rattle.plan_report.specs.declared.run_fault.RunFault.TheVariants as faults
use Rattle.command_texts.specs.declared.answer.Answer.{Answer}
use Rattle.command_texts.specs.declared.stop.Stop.{Stop}
use Rattle.command_texts.specs.declared.stop.Stop.TheVariants as stops
use Rattle.command_texts.specs.declared.status.Status.{Status}
use Rattle.command_texts.specs.declared.status.Status.TheVariants.{WriteFault}
use Rattle.command_texts.specs.Texts.{Told, Texts, AreRead, HoldsOfTexts}
use Rattle.command_texts.specs.Refusals.{IsProblem, HoldsOfProblem, IsPlanAlone, Counts, IsShownBy}
use Rattle.command_texts.specs.Stops.{IsReadStop, TookMore, BeginsOrStops}
use Rattle.command_texts.specs.Shelf.{counts_since, AnswersOrStops}
use Rattle.command_texts.specs.Answers.{IsCheck, IsVerdict, IsReport, IsChecked, IsVerified, IsReported, IsRewritten, IsUpgraded, IsWholeAnswer, IsWritten, whole, cut}
use Rattle.command_texts.proofs.Begins.{memory_after}

-- what holds of what the texts spell holds of a problem of the texts
pub of_problem : (names : Texts) (shelf : Told) (begun : ℕ) (net : NetworkFile) (parts : Parts) (plan : Option Plan) (Holds : NetworkFile → Parts → Option Plan → Type 0)
    → HoldsOfTexts shelf names begun (λ texts. IsProblem texts net parts plan) → Holds net parts plan → HoldsOfTexts shelf names begun (λ texts. HoldsOfProblem texts Holds)
of_problem names shelf begun net parts plan Holds h holds = record { texts = h.texts; read = h.read; holds = record { net = net; parts = parts; plan = plan; problem = h.holds; holds = holds } }

-- the check of an instance that texts spell is the check of these texts
pub checked_texts : (names : Texts) (shelf : Told) (begun : ℕ) (net : NetworkFile) (parts : Parts) (status : Status) (bytes : List ℕ)
    → HoldsOfTexts shelf names begun (λ texts. IsProblem texts net parts None) → IsCheck parts status bytes → HoldsOfTexts shelf names begun (λ texts. IsChecked texts status bytes)
checked_texts names shelf begun net parts status bytes h is = of_problem names shelf begun net parts None (λ net parts plan. IsCheck parts status bytes) h is

-- the verdict on an instance and a plan that texts spell is the verdict on these texts
pub verified_texts : (names : Texts) (shelf : Told) (begun : ℕ) (net : NetworkFile) (parts : Parts) (plan : Plan) (status : Status) (bytes : List ℕ)
    → HoldsOfTexts shelf names begun (λ texts. IsProblem texts net parts (Some plan)) → IsVerdict parts plan status bytes → HoldsOfTexts shelf names begun (λ texts. IsVerified texts status bytes)
verified_texts names shelf begun net parts plan status bytes h is = record { texts = h.texts; read = h.read; holds = record { net = net; parts = parts; plan = Some plan; problem = h.holds; holds = is } }

-- the report on an instance and a plan that texts spell is the report on these texts
pub reported_texts : (names : Texts) (shelf : Told) (begun : ℕ) (net : NetworkFile) (parts : Parts) (plan : Plan) (status : Status) (bytes : List ℕ)
    → HoldsOfTexts shelf names begun (λ texts. IsProblem texts net parts (Some plan)) → IsReport net parts plan status bytes → HoldsOfTexts shelf names begun (λ texts. IsReported texts status bytes)
reported_texts names shelf begun net parts plan status bytes h is = record { texts = h.texts; read = h.read; holds = record { net = net; parts = parts; plan = Some plan; problem = h.holds; holds = is } }

-- what is written of a plan is what is written of the text that spells it
pub upgraded_texts : (names : Texts) (shelf : Told) (begun : ℕ) (texts : Texts) (plan : Plan) (status : Status) (bytes : List ℕ) → AreRead shelf names begun texts → IsPlanAlone texts plan → IsRewritten plan status bytes → HoldsOfTexts shelf names begun (λ texts. IsUpgraded texts status bytes)
upgraded_texts names shelf begun texts plan status bytes read spelt is = record { texts = texts; read = read; holds = record { plan = plan; read = spelt; written = is } }

-- the instance of a problem of texts is read from its network
pub read_from : (names : Texts) (shelf : Told) (begun : ℕ) (net : NetworkFile) (parts : Parts) (plan : Option Plan) → HoldsOfTexts shelf names begun (λ texts. IsProblem texts net parts plan) → IsReadFrom net parts
read_from names shelf begun net parts plan h = record { model = h.holds.reads.options; reads = h.holds.reads.stands }

-- where memory is wanting for the answer, once all texts are read, a command stops for that
pub memory_ends : {S : Type 0} (shelf : Ghosts S) (names : Texts) (Done : Texts → Status → List ℕ → Type 0) (old new : S) (result : Result Answer Stop)
    → BeginsOrStops names (shelf.text old) (counts_since shelf old new) (shelf.begins old) (shelf.begins new) None → result ≡ Err stops.OutOfMemory → AnswersOrStops shelf names Done old new result
memory_ends shelf names Done old new result all is = rw is record { done = tt; stops = memory_after names (shelf.text old) (counts_since shelf old new) (shelf.begins old) (shelf.begins new) all }

-- ---- what is written of an answer

-- where the whole text of an answer or refusal was appended, it is written with its own status
pub written_whole : (found : Result Answer Stop) (before now : Option (List ℕ)) (status : Status) (text : List ℕ) → IsWholeAnswer found status text → Appends before now text → IsWritten found before now status
written_whole found before now status text is appends = whole text is appends

-- where only a front of an answer's or refusal's text was appended, it is written with the status of a write fault
pub written_cut : (found : Result Answer Stop) (before now : Option (List ℕ)) (status : Status) (text : List ℕ) (written : ℕ) → IsWholeAnswer found status text → written < length text → Appends before now (take written text) → IsWritten found before now WriteFault
written_cut found before now status text written is short appends = cut status text written is short appends refl

-- ---- what a shelf shows of a refusal

-- the shelf's counts show why texts are refused
pub shown : (counts : Counts) (fault : RunFault) → (IsReadStop (stops.Refused fault) → Rose counts.faults_before counts.faults_now) → TookMore counts.taken (stops.Refused fault) → IsShownBy counts fault
shown counts (faults.Read file) rose more = rose (file, refl)
shown counts (faults.TooLong file) rose more = more file refl
shown counts faults.Usage rose more = tt
shown counts (faults.Text file fault) rose more = tt
shown counts (faults.PlanText rule at) rose more = tt
shown counts (faults.LoopLink link) rose more = tt
shown counts (faults.LoopDemand demand) rose more = tt
shown counts (faults.Unsupported key value) rose more = tt
shown counts (faults.OverLimit limit at) rose more = tt
