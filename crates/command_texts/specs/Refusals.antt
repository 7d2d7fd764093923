-- Why the texts of a command are refused: the first cause in the order in which they are looked at.
use Rattle.std.specs.Prelude.{ℕ, ◌≡◌, ◌≢◌, ◌+◌, ◌<◌, ◌⊎◌, length, Option, None, Some, IfSome, IsSomeAnd}
use Rattle.plan_io.specs.Causes.{Rose}
use Rattle.plan_base.specs.declared.parts.Parts.{Parts}
use Rattle.plan_base.specs.declared.build_fault.BuildFault.TheVariants as build
use Rattle.plan_base.specs.Facts.{IsInstance, total_load}
use Rattle.plan_base.specs.Arcs.{link_at}
use Rattle.snd_reader.specs.declared.fault.TextFault.{TextFault}
use Rattle.snd_reader.specs.declared.fault.TextFault.TheVariants as text_faults
use Rattle.snd_network.specs.declared.file.NetworkFile.{NetworkFile}
use Rattle.snd_network.specs.Spelling.{SpellsNetwork}
use Rattle.snd_network.specs.Spelling.{IsFault as IsNetworkFault}
use Rattle.snd_model.specs.declared.file.ModelFile.{ModelFile}
use Rattle.snd_model.specs.Spelling.{SpellsModel}
use Rattle.snd_model.specs.Spelling.{IsFault as IsModelFault}
use Rattle.model_check.specs.declared.fault.CheckFault.{CheckFault}
use Rattle.model_check.specs.declared.fault.CheckFault.TheVariants as check_faults
use Rattle.model_check.specs.Reading.{ReadsAs}
use Rattle.model_check.specs.Refusals.{IsCheckFault}
use Rattle.link_steps.specs.declared.limits.TheConstants.{MAX_STEPS}
use Rattle.link_steps.specs.Costs.{HasAtMostSteps, IsFirstPastSteps}
use Rattle.proof_tree.specs.declared.plan.Plan.{Plan}
use Rattle.cert_format.specs.declared.fault.PlanFault.TheVariants as plan_faults
use Rattle.cert_format.specs.Grammar.{SpellsPlan}
use Rattle.cert_format.specs.Faults.{IsFault as IsPlanTextFault}
use Rattle.plan_report.specs.declared.run_fault.FileKind.{FileKind}
use Rattle.plan_report.specs.declared.run_fault.FileKind.TheVariants as files
use Rattle.plan_report.specs.declared.run_fault.RunFault.{RunFault}
use Rattle.plan_report.specs.declared.run_fault.RunFault.TheVariants as faults
use Rattle.command_texts.specs.Texts.{Text, Name, Told, Texts, empty_texts, count_of, most_bytes, IsRead, HoldsOfTexts}

-- ---- what texts stand for

-- the network text is there, and spells this network
abbrev pub SpellsItsNetwork : Option Text → NetworkFile → Type 0
SpellsItsNetwork text net = IsSomeAnd text (λ text. SpellsNetwork text net)

-- the model text is there, and spells this model
abbrev pub SpellsItsModel : Option Text → ModelFile → Type 0
SpellsItsModel text options = IsSomeAnd text (λ text. SpellsModel text options)

-- the texts spell this network, and a model that is planned, and these are the parts that they stand for, which are an instance
pub record Reads (texts : Texts) (net : NetworkFile) (parts : Parts) : Type 0 where
  pub options : ModelFile
  pub network_text : SpellsItsNetwork texts.network net
  pub model_text : SpellsItsModel texts.model options
  pub stands : ReadsAs net options parts
  pub lawful : IsInstance parts

-- the plan text, where there is one, spells this plan
abbrev pub SpellsItsPlan : Option Text → Option Plan → Type 0
SpellsItsPlan None None = Unit {0}
SpellsItsPlan (Some text) (Some plan) = SpellsPlan text plan
SpellsItsPlan text plan = ⊥

-- the network text, where there is one, spells a network
abbrev pub HasItsNetwork : Option Text → Type 0
HasItsNetwork text = IfSome text (λ text. (net : NetworkFile) × SpellsNetwork text net)

-- the model text, where there is one, spells a model
abbrev pub HasItsModel : Option Text → Type 0
HasItsModel text = IfSome text (λ text. (options : ModelFile) × SpellsModel text options)

-- the plan text, where there is one, spells a plan
abbrev pub HasItsPlan : Option Text → Type 0
HasItsPlan text = IfSome text (λ text. (plan : Plan) × SpellsPlan text plan)

-- the least module cost of each link takes at most the lawful number of values
abbrev pub HasFewSteps : Parts → Type 0
HasFewSteps p = (e : ℕ) → e < length p.links → HasAtMostSteps p.law (total_load p) (link_at p e) MAX_STEPS

-- the texts spell this network, this instance within its limits, and this plan where one is among them
pub record IsProblem (texts : Texts) (net : NetworkFile) (parts : Parts) (plan : Option Plan) : Type 0 where
  pub reads : Reads texts net parts
  pub plan_text : SpellsItsPlan texts.plan plan
  pub few_steps : HasFewSteps parts

-- the same, and this holds of what they spell
pub record HoldsOfProblem (texts : Texts) (Holds : NetworkFile → Parts → Option Plan → Type 0) : Type 0 where
  pub net : NetworkFile
  pub parts : Parts
  pub plan : Option Plan
  pub problem : IsProblem texts net parts plan
  pub holds : Holds net parts plan

-- the texts are a plan by itself, and it is spelt so
pub record IsPlanAlone (texts : Texts) (plan : Plan) : Type 0 where
  pub no_network : texts.network ≡ None
  pub no_model : texts.model ≡ None
  pub plan_text : SpellsItsPlan texts.plan (Some plan)

-- the texts spell what a command works on: an instance within its limits, with a plan where one is named; or a plan by itself; or they are none
pub data AreGood (texts : Texts) : Type 0 where
  a_problem : (net : NetworkFile) (parts : Parts) (plan : Option Plan) → IsProblem texts net parts plan → AreGood texts
  a_plan : (plan : Plan) → IsPlanAlone texts plan → AreGood texts
  no_texts : texts ≡ empty_texts → AreGood texts

-- ---- why texts are refused

-- the network text is there, and is refused so
abbrev pub IsNetworkRefused : Option Text → TextFault → Type 0
IsNetworkRefused text fault = IsSomeAnd text (λ text. IsNetworkFault text fault) × (fault ≢ text_faults.OutOfMemory)

-- the model text is there, and is refused so
abbrev pub IsModelRefused : Option Text → TextFault → Type 0
IsModelRefused text fault = IsSomeAnd text (λ text. IsModelFault text fault) × (fault ≢ text_faults.OutOfMemory)

-- rule 1: the line that begins at this byte cannot stand there, and those before it can; rule 2: the text ends there, and a further line must follow
pub data IsPlanFault (text : Text) (rule at : ℕ) : Type 0 where
  misplaced : rule ≡ 1 → IsPlanTextFault text (plan_faults.Line at) → IsPlanFault text rule at
  ended : rule ≡ 2 → IsPlanTextFault text (plan_faults.Ended at) → IsPlanFault text rule at

-- the plan text is there, and is refused so
abbrev pub IsPlanRefused : Option Text → ℕ → ℕ → Type 0
IsPlanRefused text rule at = IsSomeAnd text (λ text. IsPlanFault text rule at)

-- all texts are spelt by their grammars, and network and model stand for no instance because of this
pub record IsMisfit (texts : Texts) (fault : CheckFault) : Type 0 where
  pub net : NetworkFile
  pub options : ModelFile
  pub network_text : SpellsItsNetwork texts.network net
  pub model_text : SpellsItsModel texts.model options
  pub plan_text : HasItsPlan texts.plan
  pub is : IsCheckFault net options fault

-- the texts spell an instance, and a plan where one is named, and this is the first link whose least module cost takes too many values
pub record IsPastSteps (texts : Texts) (limit at : ℕ) : Type 0 where
  pub ninth : limit ≡ 9
  pub net : NetworkFile
  pub parts : Parts
  pub reads : Reads texts net parts
  pub plan_text : HasItsPlan texts.plan
  pub first : IsFirstPastSteps parts at

-- the texts are refused so: where one is not spelt by its grammar, those of the kinds before it are
abbrev pub AreRefused : Texts → RunFault → Type 0
AreRefused texts (faults.Text files.Network fault) = IsNetworkRefused texts.network fault
AreRefused texts (faults.Text files.Model fault) = HasItsNetwork texts.network × IsModelRefused texts.model fault
AreRefused texts (faults.PlanText rule at) = HasItsNetwork texts.network × HasItsModel texts.model × IsPlanRefused texts.plan rule at
AreRefused texts (faults.LoopLink link) = IsMisfit texts (check_faults.Build (build.LoopLink link))
AreRefused texts (faults.LoopDemand demand) = IsMisfit texts (check_faults.Build (build.LoopDemand demand))
AreRefused texts (faults.Unsupported key value) = IsMisfit texts (check_faults.Unsupported key value)
AreRefused texts (faults.OverLimit limit at) = IsMisfit texts (check_faults.Build (build.OverLimit limit at)) ⊎ IsPastSteps texts limit at
AreRefused texts fault = ⊥

-- ---- why texts do not come in

-- the text of this kind, where one is named, was read
abbrev pub WasRead : Told → FileKind → Option Name → Type 0
WasRead shelf file named = IfSome named (λ name. (text : Text) × IsRead shelf file name text)

-- the text begun last is this one, and those before it were read
abbrev pub IsLastBegun : Told → Texts → ℕ → FileKind → Type 0
IsLastBegun shelf names begun files.Network = begun ≡ 1
IsLastBegun shelf names begun files.Model = (begun ≡ count_of names.network + 1) × WasRead shelf files.Network names.network
IsLastBegun shelf names begun files.Plan = (begun ≡ count_of names.network + count_of names.model + 1) × WasRead shelf files.Network names.network × WasRead shelf files.Model names.model

-- the name of the text of this kind, where one is named
abbrev pub name_of : Texts → FileKind → Option Name
name_of names files.Network = names.network
name_of names files.Model = names.model
name_of names files.Plan = names.plan

-- the text begun last is this one, which could not be read
pub record IsUnreadable (shelf : Told) (names : Texts) (begun : ℕ) (file : FileKind) : Type 0 where
  pub name : Name
  pub named : name_of names file ≡ Some name
  pub place : IsLastBegun shelf names begun file

-- the text begun last is this one, and it is longer than its limit
pub record IsTooLong (shelf : Told) (names : Texts) (begun : ℕ) (file : FileKind) : Type 0 where
  pub name : Name
  pub named : name_of names file ≡ Some name
  pub place : IsLastBegun shelf names begun file
  pub longer : IfSome (shelf name) (λ told. most_bytes file < length told)

-- texts of these names, so many of which were begun, may be refused so
abbrev pub IsRefusalOf : Texts → Told → ℕ → RunFault → Type 0
IsRefusalOf names shelf begun (faults.Read file) = IsUnreadable shelf names begun file
IsRefusalOf names shelf begun (faults.TooLong file) = IsTooLong shelf names begun file
IsRefusalOf names shelf begun fault = HoldsOfTexts shelf names begun (λ texts. AreRefused texts fault)

-- ---- what a shelf shows of it

-- counts of a shelf: its faults before and now, and the bytes taken since a text was begun last
pub record Counts : Type 0 where
  pub faults_before : ℕ
  pub faults_now : ℕ
  pub taken : ℕ

-- these counts
abbrev pub counts_of : ℕ → ℕ → ℕ → Counts
counts_of faults_before faults_now taken = record { faults_before = faults_before; faults_now = faults_now; taken = taken }

-- the counts show the cause: where a text could not be read a fault rose, where one is too long more bytes than its limit were taken
abbrev pub IsShownBy : Counts → RunFault → Type 0
IsShownBy counts (faults.Read file) = Rose counts.faults_before counts.faults_now
IsShownBy counts (faults.TooLong file) = most_bytes file < counts.taken
IsShownBy counts fault = Unit {0}
