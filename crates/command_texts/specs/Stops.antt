-- Why a run stops where its texts are read, and what was found of them.
use Rattle.std.specs.Prelude.{ℕ, ◌≡◌, ◌≢◌, ◌<◌, ◌≤◌, ◌⊎◌, length, Option, IfSome, IfNone}
use Rattle.plan_io.specs.Causes.{Rose}
use Rattle.plan_io.specs.declared.reading.ReadWhole.{ReadWhole}
use Rattle.plan_io.specs.declared.reading.ReadWhole.TheVariants as read
use Rattle.plan_base.specs.declared.build_fault.BuildFault.TheVariants as build
use Rattle.plan_base.specs.declared.parts.Parts.{Parts}
use Rattle.plan_base.specs.Facts.{IsInstance}
use Rattle.snd_reader.specs.declared.fault.TextFault.{TextFault}
use Rattle.snd_reader.specs.declared.fault.TextFault.TheVariants as text_faults
use Rattle.snd_network.specs.declared.file.NetworkFile.{NetworkFile}
use Rattle.snd_network.specs.Spelling.{IsFault as IsNetworkFault}
use Rattle.snd_model.specs.declared.file.ModelFile.{ModelFile}
use Rattle.snd_model.specs.Spelling.{IsFault as IsModelFault}
use Rattle.model_check.specs.declared.fault.CheckFault.{CheckFault}
use Rattle.model_check.specs.declared.fault.CheckFault.TheVariants as check_faults
use Rattle.model_check.specs.Reading.{ReadsAs}
use Rattle.model_check.specs.Refusals.{IsCheckFault, CanCome}
use Rattle.link_steps.specs.declared.step_fault.StepFault.{StepFault}
use Rattle.link_steps.specs.declared.step_fault.StepFault.TheVariants as step_faults
use Rattle.link_steps.specs.Costs.{IsFaultOf}
use Rattle.cert_format.specs.declared.fault.PlanFault.{PlanFault}
use Rattle.cert_format.specs.declared.fault.PlanFault.TheVariants as plan_faults
use Rattle.plan_report.specs.declared.run_fault.FileKind.{FileKind}
use Rattle.plan_report.specs.declared.run_fault.FileKind.TheVariants as files
use Rattle.plan_report.specs.declared.run_fault.RunFault.TheVariants as faults
use Rattle.command_texts.specs.declared.stop.Stop.{Stop}
use Rattle.command_texts.specs.declared.stop.Stop.TheVariants.{Refused, OutOfMemory}
use Rattle.command_texts.specs.Texts.{Text, Name, Told, Texts, Begun, most_bytes, text_count}
use Rattle.command_texts.specs.Refusals.{IsPlanFault, AreRefused, IsRefusalOf, Counts}

-- where a text is not read by its grammar
abbrev pub stop_of_text : FileKind → TextFault → Stop
stop_of_text file text_faults.OutOfMemory = OutOfMemory
stop_of_text file fault = Refused (faults.Text file fault)

-- where a plan text is not read by its grammar
abbrev pub stop_of_plan : PlanFault → Stop
stop_of_plan (plan_faults.Line at) = Refused (faults.PlanText 1 at)
stop_of_plan (plan_faults.Ended at) = Refused (faults.PlanText 2 at)
stop_of_plan plan_faults.OutOfMemory = OutOfMemory

-- where two files stand for no instance
abbrev pub stop_of_check : CheckFault → Stop
stop_of_check (check_faults.Unsupported key value) = Refused (faults.Unsupported key value)
stop_of_check (check_faults.Build (build.LoopLink link)) = Refused (faults.LoopLink link)
stop_of_check (check_faults.Build (build.LoopDemand demand)) = Refused (faults.LoopDemand demand)
stop_of_check (check_faults.Build (build.OverLimit limit at)) = Refused (faults.OverLimit limit at)
stop_of_check (check_faults.Build fault) = OutOfMemory
stop_of_check check_faults.OutOfMemory = OutOfMemory

-- where a step table is not made
abbrev pub stop_of_steps : StepFault → Stop
stop_of_steps (step_faults.TooManySteps link) = Refused (faults.OverLimit 9 link.0)
stop_of_steps step_faults.OutOfMemory = OutOfMemory

-- where a text does not come in
abbrev pub stop_of_reading : FileKind → ReadWhole → Stop
stop_of_reading file read.ReadFault = Refused (faults.Read file)
stop_of_reading file read.TooLong = Refused (faults.TooLong file)
stop_of_reading file read.OutOfMemory = OutOfMemory

-- ---- texts and files

-- the texts are refused so, or memory ran out
abbrev pub IsTextStop : Texts → Stop → Type 0
IsTextStop texts (Refused fault) = AreRefused texts fault
IsTextStop texts OutOfMemory = Unit {0}

-- a text of this kind is refused for one of these faults, or memory ran out
abbrev pub IsStopOf : FileKind → (TextFault → Type 0) → Stop → Type 0
IsStopOf file IsFault (Refused fault) = (fault_of : TextFault) × (fault ≡ faults.Text file fault_of) × IsFault fault_of × (fault_of ≢ text_faults.OutOfMemory)
IsStopOf file IsFault OutOfMemory = Unit {0}

-- the network text is refused so
abbrev pub IsNetworkStop : Text → Stop → Type 0
IsNetworkStop network stop = IsStopOf files.Network (IsNetworkFault network) stop

-- the model text is refused so
abbrev pub IsModelStop : Text → Stop → Type 0
IsModelStop model stop = IsStopOf files.Model (IsModelFault model) stop

-- the plan text is refused so
abbrev pub IsPlanTextStop : Text → Stop → Type 0
IsPlanTextStop text (Refused fault) = (rule : ℕ) × (at : ℕ) × (fault ≡ faults.PlanText rule at) × IsPlanFault text rule at
IsPlanTextStop text OutOfMemory = Unit {0}

-- the files stand for no instance
abbrev pub IsFileStop : NetworkFile → ModelFile → Stop → Type 0
IsFileStop net options stop = (fault : CheckFault) × (stop ≡ stop_of_check fault) × CanCome fault × IsCheckFault net options fault

-- a step table is not made of the instance
abbrev pub IsStepStop : Parts → Stop → Type 0
IsStepStop parts stop = (fault : StepFault) × (stop ≡ stop_of_steps fault) × IsFaultOf parts fault

-- no problem comes of the two files: they stand for no instance, or for one with a link of too many steps
abbrev pub IsProblemStop : NetworkFile → ModelFile → Stop → Type 0
IsProblemStop net options stop = IsFileStop net options stop ⊎ ((parts : Parts) × ReadsAs net options parts × IsInstance parts × IsStepStop parts stop)

-- ---- how texts come in

-- why a text of this name does not come in
abbrev pub IsUnread : Told → Name → FileKind → Stop → Type 0
IsUnread shelf name file (Refused fault) = (fault ≡ faults.Read file) ⊎ ((fault ≡ faults.TooLong file) × IfSome (shelf name) (λ told. most_bytes file < length told))
IsUnread shelf name file OutOfMemory = Unit {0}

-- the run stops since the shelf failed
abbrev pub IsReadStop : Stop → Type 0
IsReadStop stop = (file : FileKind) × (stop ≡ Refused (faults.Read file))

-- where the run stops since a text is too long, more bytes than its limit were taken
abbrev pub TookMore : ℕ → Stop → Type 0
TookMore taken stop = (file : FileKind) → stop ≡ Refused (faults.TooLong file) → most_bytes file < taken

-- why a command about texts of these names, so many of which were begun, stops
abbrev pub IsStopCause : Texts → Told → ℕ → Stop → Type 0
IsStopCause names shelf begun (Refused fault) = IsRefusalOf names shelf begun fault
IsStopCause names shelf begun OutOfMemory = begun ≤ text_count names

-- a command about texts of these names stops so, and the count of begins tells how many were begun
pub record Stops (names : Texts) (shelf : Told) (before now : ℕ) (stop : Stop) : Type 0 where
  pub begun : ℕ
  pub rises : Begun begun before now
  pub few : begun ≤ text_count names
  pub is : IsStopCause names shelf begun stop

-- a command begins all texts of these names, or it stops for a cause that the counts of the shelf show; the count of faults does not fall
pub record BeginsOrStops (names : Texts) (shelf : Told) (counts : Counts) (before now : ℕ) (stop : Option Stop) : Type 0 where
  pub begun : IfNone stop (Begun (text_count names) before now)
  pub stops : IfSome stop (Stops names shelf before now)
  pub read_fault : IfSome stop (λ why. IsReadStop why → Rose counts.faults_before counts.faults_now)
  pub too_long : IfSome stop (TookMore counts.taken)
  pub later : counts.faults_before ≤ counts.faults_now
