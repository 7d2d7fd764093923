-- Why texts are refused, from what the readers and the checks ensure.
use Rattle.std.proofs.Common.{ℕ, List, Option, Some, None, Result, Ok, Err, refl, inl, inr}
use Rattle.std.specs.Prelude.{IfErr}
use Rattle.plan_base.specs.declared.parts.Parts.{Parts}
use Rattle.plan_base.specs.declared.build_fault.BuildFault.TheVariants as build
use Rattle.plan_base.specs.Facts.{IsInstance}
use Rattle.snd_reader.specs.declared.fault.TextFault.{TextFault}
use Rattle.snd_reader.specs.declared.fault.TextFault.TheVariants.{Header, Unexpected, Number, Twice, Unknown, Ended, LongId, Control, OutOfMemory}
use Rattle.snd_network.specs.declared.file.NetworkFile.{NetworkFile}
use Rattle.snd_network.specs.Spelling.{SpellsNetwork}
use Rattle.snd_network.specs.Spelling.{IsFault as IsNetworkFault}
use Rattle.snd_model.specs.declared.file.ModelFile.{ModelFile}
use Rattle.snd_model.specs.Spelling.{SpellsModel}
use Rattle.snd_model.specs.Spelling.{IsFault as IsModelFault}
use Rattle.model_check.specs.declared.fault.CheckFault.{CheckFault}
use Rattle.model_check.specs.declared.fault.CheckFault.TheVariants as check_faults
use Rattle.model_check.specs.Reading.{ReadsAs}
use Rattle.model_check.specs.Refusals.{IsCheckFault, CanCome}
use Rattle.link_steps.specs.declared.step_fault.StepFault.{StepFault}
use Rattle.link_steps.specs.declared.step_fault.StepFault.TheVariants as step_faults
use Rattle.link_steps.specs.Costs.{IsFaultOf}
use Rattle.cert_format.specs.declared.fault.PlanFault.{PlanFault}
use Rattle.cert_format.specs.declared.fault.PlanFault.TheVariants as plan_faults
use Rattle.cert_format.specs.Faults.{IsFault as IsPlanTextFault}
use Rattle.cert_format.specs.Grammar.{SpellsPlan}
use Rattle.proof_tree.specs.declared.plan.Plan.{Plan}
use Rattle.plan_report.specs.declared.run_fault.FileKind.{FileKind}
use Rattle.plan_report.specs.declared.run_fault.FileKind.TheVariants as files
use Rattle.command_texts.specs.declared.stop.Stop.{Stop}
use Rattle.command_texts.specs.declared.stop.Stop.TheVariants as stops
use Rattle.command_texts.specs.Texts.{Texts, alone, two, three}
use Rattle.command_texts.specs.Refusals.{SpellsItsNetwork, SpellsItsModel, Reads, HasItsPlan, SpellsItsPlan, HasFewSteps, IsProblem, IsPlanAlone, misplaced, ended}
use Rattle.command_texts.specs.Stops.{stop_of_text, stop_of_plan, stop_of_check, stop_of_steps, IsTextStop, IsStopOf, IsNetworkStop, IsModelStop, IsPlanTextStop, IsFileStop, IsProblemStop}

text-stop : (file : FileKind) (IsFault : TextFault → Type 0) (fault : TextFault) → IsFault fault → IsStopOf file IsFault (stop_of_text file fault)
text-stop file IsFault OutOfMemory is = tt
text-stop file IsFault Header is = (Header, refl, is, λ same. cc)
text-stop file IsFault (Unexpected at w) is = (Unexpected at w, refl, is, λ same. cc)
text-stop file IsFault (Number at f) is = (Number at f, refl, is, λ same. cc)
text-stop file IsFault (Twice at) is = (Twice at, refl, is, λ same. cc)
text-stop file IsFault (Unknown at) is = (Unknown at, refl, is, λ same. cc)
text-stop file IsFault (Ended at) is = (Ended at, refl, is, λ same. cc)
text-stop file IsFault (LongId at) is = (LongId at, refl, is, λ same. cc)
text-stop file IsFault (Control at) is = (Control at, refl, is, λ same. cc)

-- the stop that a fault of a network text leads to is a refusal of that text, or want of memory
pub network_stop : (text : List ℕ) (fault : TextFault) → IsNetworkFault text fault → IsNetworkStop text (stop_of_text files.Network fault)
network_stop text fault is = text-stop files.Network (IsNetworkFault text) fault is

-- the stop that a fault of a model text leads to is a refusal of that text, or want of memory
pub model_stop : (text : List ℕ) (fault : TextFault) → IsModelFault text fault → IsModelStop text (stop_of_text files.Model fault)
model_stop text fault is = text-stop files.Model (IsModelFault text) fault is

-- the stop that a fault of a plan text leads to is a refusal of that text, or want of memory
pub plan_stop : (text : List ℕ) (fault : PlanFault) → IsPlanTextFault text fault → IsPlanTextStop text (stop_of_plan fault)
plan_stop text (plan_faults.Line at) is = (1, at, refl, misplaced refl is)
plan_stop text (plan_faults.Ended at) is = (2, at, refl, ended refl is)
plan_stop text plan_faults.OutOfMemory is = tt

-- a refused network text refuses the texts
pub network_refused : (network : List ℕ) (model plan : Option (List ℕ)) (stop : Stop) → IsNetworkStop network stop → IsTextStop (record { network = Some network; model = model; plan = plan }) stop
network_refused network model plan (stops.Refused fault) (text_fault, is, holds, some) = rw is (holds, some)
network_refused network model plan stops.OutOfMemory is = tt

-- a refused model text refuses the texts, where the network text is spelt
pub model_refused : (network model : List ℕ) (plan : Option (List ℕ)) (net : NetworkFile) (stop : Stop) → SpellsNetwork network net → IsModelStop model stop → IsTextStop (record { network = Some network; model = Some model; plan = plan }) stop
model_refused network model plan net (stops.Refused fault) spelt (text_fault, is, holds, some) = rw is ((net, spelt), (holds, some))
model_refused network model plan net stops.OutOfMemory spelt is = tt

-- a refused plan text refuses the texts, where the others are spelt
pub plan_refused : (network model plan : List ℕ) (net : NetworkFile) (options : ModelFile) (stop : Stop) → SpellsNetwork network net → SpellsModel model options → IsPlanTextStop plan stop → IsTextStop (three network model plan) stop
plan_refused network model plan net options (stops.Refused fault) first second (rule, at, is, bad) = rw is ((net, first), (options, second), bad)
plan_refused network model plan net options stops.OutOfMemory first second is = tt

-- a refused plan by itself refuses the texts
pub alone_refused : (plan : List ℕ) (stop : Stop) → IsPlanTextStop plan stop → IsTextStop (alone plan) stop
alone_refused plan (stops.Refused fault) (rule, at, is, bad) = rw is (tt, tt, bad)
alone_refused plan stops.OutOfMemory is = tt

-- a plan text by itself spells its plan
pub alone_spelt : (text : List ℕ) (plan : Plan) → SpellsPlan text plan → IsPlanAlone (alone text) plan
alone_spelt text plan spelt = record { no_network = refl; no_model = refl; plan_text = spelt }

check-refused : (texts : Texts) (net : NetworkFile) (options : ModelFile) (fault : CheckFault) → SpellsItsNetwork texts.network net → SpellsItsModel texts.model options → HasItsPlan texts.plan → CanCome fault → IsCheckFault net options fault → IsTextStop texts (stop_of_check fault)
check-refused texts net options (check_faults.Unsupported key value) first second plan can is = record { net = net; options = options; network_text = first; model_text = second; plan_text = plan; is = is }
check-refused texts net options (check_faults.Build (build.LoopLink link)) first second plan can is = record { net = net; options = options; network_text = first; model_text = second; plan_text = plan; is = is }
check-refused texts net options (check_faults.Build (build.LoopDemand demand)) first second plan can is = record { net = net; options = options; network_text = first; model_text = second; plan_text = plan; is = is }
check-refused texts net options (check_faults.Build (build.OverLimit limit at)) first second plan can is = inl record { net = net; options = options; network_text = first; model_text = second; plan_text = plan; is = is }
check-refused texts net options (check_faults.Build (build.EndOutOfRange what)) first second plan can is = absurd can
check-refused texts net options (check_faults.Build build.OutOfMemory) first second plan can is = absurd can
check-refused texts net options check_faults.OutOfMemory first second plan can is = tt

steps-refused : (texts : Texts) (net : NetworkFile) (parts : Parts) (fault : StepFault) → Reads texts net parts → HasItsPlan texts.plan → IsFaultOf parts fault → IsTextStop texts (stop_of_steps fault)
steps-refused texts net parts (step_faults.TooManySteps link) reads plan first = inr record { ninth = refl; net = net; parts = parts; reads = reads; plan_text = plan; first = first }
steps-refused texts net parts step_faults.OutOfMemory reads plan is = tt

-- files of which no problem comes refuse the texts that spell them
refused : (texts : Texts) (net : NetworkFile) (options : ModelFile) (stop : Stop) → SpellsItsNetwork texts.network net → SpellsItsModel texts.model options → HasItsPlan texts.plan → IsProblemStop net options stop → IsTextStop texts stop
refused texts net options stop first second plan (inl (fault, is, can, holds)) = rw is (check-refused texts net options fault first second plan can holds)
refused texts net options stop first second plan (inr (parts, stands, lawful, (fault, is, holds))) =
    rw is (steps-refused texts net parts fault record { options = options; network_text = first; model_text = second; stands = stands; lawful = lawful } plan holds)

-- where no problem comes of two files, the network and model texts that spell them are refused for that cause
pub problem_refused : (network model : List ℕ) (net : NetworkFile) (options : ModelFile) (stop : Stop) → SpellsNetwork network net → SpellsModel model options → IsProblemStop net options stop → IsTextStop (two network model) stop
problem_refused network model net options stop first second is = refused (two network model) net options stop first second tt is

-- where no problem comes of two files, their texts, with one that spells a plan, are refused for that cause
pub planned_refused : (network model text : List ℕ) (net : NetworkFile) (options : ModelFile) (plan : Plan) (stop : Stop) → SpellsNetwork network net → SpellsModel model options → SpellsPlan text plan → IsProblemStop net options stop → IsTextStop (three network model text) stop
planned_refused network model text net options plan stop first second spelt is = refused (three network model text) net options stop first second (plan, spelt) is

-- ---- what texts spell

problem : (texts : Texts) (net : NetworkFile) (options : ModelFile) (parts : Parts) (plan : Option Plan) → SpellsItsNetwork texts.network net
    → SpellsItsModel texts.model options → SpellsItsPlan texts.plan plan → ReadsAs net options parts → IsInstance parts → HasFewSteps parts → IsProblem texts net parts plan
problem texts net options parts plan first second spelt stands lawful few = record {
  reads = record { options = options; network_text = first; model_text = second; stands = stands; lawful = lawful };
  plan_text = spelt;
  few_steps = few;
}

-- texts of a network and a model that stand for an instance with few steps spell it as a problem without a plan
pub problem_spelt : (network model : List ℕ) (net : NetworkFile) (options : ModelFile) (parts : Parts) → SpellsNetwork network net → SpellsModel model options → ReadsAs net options parts → IsInstance parts → HasFewSteps parts → IsProblem (two network model) net parts None
problem_spelt network model net options parts first second stands lawful few = problem (two network model) net options parts None first second tt stands lawful few

-- texts of a network and a model that stand for an instance with few steps, and of a plan, spell a problem
pub planned_spelt : (network model text : List ℕ) (net : NetworkFile) (options : ModelFile) (parts : Parts) (plan : Plan) → SpellsNetwork network net
    → SpellsModel model options → SpellsPlan text plan → ReadsAs net options parts → IsInstance parts → HasFewSteps parts → IsProblem (three network model text) net parts (Some plan)
planned_spelt network model text net options parts plan first second spelt stands lawful few = problem (three network model text) net options parts (Some plan) first second spelt stands lawful few

-- ---- why a problem is not made

-- where two files stand for no instance, no problem comes of them for that cause
pub instance_stops : (net : NetworkFile) (options : ModelFile) (stop : Stop) → IsFileStop net options stop → IsProblemStop net options stop
instance_stops net options stop is = inl is

-- where no step table is made of the instance of two files, no problem comes of them for that cause
pub steps_stop : (net : NetworkFile) (options : ModelFile) (parts : Parts) (fault : StepFault) → ReadsAs net options parts → IsInstance parts → IsFaultOf parts fault → IsProblemStop net options (stop_of_steps fault)
steps_stop net options parts fault stands lawful is = inr (parts, stands, lawful, (fault, refl, is))

-- ---- the same, of results

-- where no problem comes of two files, a result fails by a refusal of their texts, or want of memory
pub problem_end : {T : Type 0} (network model : List ℕ) (net : NetworkFile) (options : ModelFile) (result : Result T Stop) → SpellsNetwork network net → SpellsModel model options → IfErr result (IsProblemStop net options) → IfErr result (IsTextStop (two network model))
problem_end network model net options (Ok x) first second h = tt
problem_end network model net options (Err stop) first second h = problem_refused network model net options stop first second h

-- where no problem comes of two files, a result fails by a refusal of their texts and a plan's, or want of memory
pub planned_end : {T : Type 0} (network model text : List ℕ) (net : NetworkFile) (options : ModelFile) (plan : Plan) (result : Result T Stop) → SpellsNetwork network net
    → SpellsModel model options → SpellsPlan text plan → IfErr result (IsProblemStop net options) → IfErr result (IsTextStop (three network model text))
planned_end network model text net options plan (Ok x) first second spelt h = tt
planned_end network model text net options plan (Err stop) first second spelt h = planned_refused network model text net options plan stop first second spelt h
