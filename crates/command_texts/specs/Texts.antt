-- How the texts that a command is about are named, and how they come in.
use Rattle.std.specs.Prelude.{ℕ, ◌≡◌, ◌≤◌, ◌+◌, ◌^◌, List, length, Option, None, Some, IfSome}
use Rattle.cert_format.specs.declared.limits.TheConstants.{MAX_PLAN_BYTES}
use Rattle.plan_report.specs.declared.run_fault.FileKind.{FileKind}
use Rattle.plan_report.specs.declared.run_fault.FileKind.TheVariants as files
use Rattle.command_texts.specs.declared.texts.TheConstants.{MAX_TEXT_BYTES}

-- the bytes of a text
abbrev pub Text : Type 0
Text = List ℕ

-- the bytes of a name
abbrev pub Name : Type 0
Name = List ℕ

-- the text that a shelf tells of each name
abbrev pub Told : Type 0
Told = Name → Option Text

-- the names of the texts that a command reads, or their bytes: of each kind of file one or none
pub record Texts : Type 0 where
  pub network : Option (List ℕ)
  pub model : Option (List ℕ)
  pub plan : Option (List ℕ)

-- nothing
abbrev pub empty_texts : Texts
empty_texts = record { network = None; model = None; plan = None }

-- a plan by itself
abbrev pub alone : List ℕ → Texts
alone plan = record { network = None; model = None; plan = Some plan }

-- a network and a model
abbrev pub two : List ℕ → List ℕ → Texts
two network model = record { network = Some network; model = Some model; plan = None }

-- a network, a model and a plan
abbrev pub three : List ℕ → List ℕ → List ℕ → Texts
three network model plan = record { network = Some network; model = Some model; plan = Some plan }

-- how many texts of one kind they are
abbrev pub count_of : Option (List ℕ) → ℕ
count_of None = 0
count_of (Some text) = 1

-- how many texts they are
abbrev pub text_count : Texts → ℕ
text_count texts = count_of texts.network + count_of texts.model + count_of texts.plan

-- the most bytes of a text
abbrev pub most_bytes : FileKind → ℕ
most_bytes files.Network = MAX_TEXT_BYTES
most_bytes files.Model = MAX_TEXT_BYTES
most_bytes files.Plan = MAX_PLAN_BYTES

-- the shelf has this text of this name, as far as it tells, and it is within the limit
pub record IsRead (shelf : Told) (file : FileKind) (name : Name) (text : Text) : Type 0 where
  pub told : IfSome (shelf name) (λ told. text ≡ told)
  pub within : length text ≤ most_bytes file

-- the text of this kind was read, where one is named
abbrev pub IsKindRead : Told → FileKind → Option Name → Option Text → Type 0
IsKindRead shelf file None None = Unit {0}
IsKindRead shelf file (Some name) (Some text) = IsRead shelf file name text
IsKindRead shelf file named read = ⊥

-- all texts that are named were begun and read, the network before the model and the model before the plan
pub record AreRead (shelf : Told) (names : Texts) (begun : ℕ) (texts : Texts) : Type 0 where
  pub all : begun ≡ text_count names
  pub network_read : IsKindRead shelf files.Network names.network texts.network
  pub model_read : IsKindRead shelf files.Model names.model texts.model
  pub plan_read : IsKindRead shelf files.Plan names.plan texts.plan

-- all texts were read, and this holds of them
pub record HoldsOfTexts (shelf : Told) (names : Texts) (begun : ℕ) (Holds : Texts → Type 0) : Type 0 where
  pub texts : Texts
  pub read : AreRead shelf names begun texts
  pub holds : Holds texts

-- so many texts were begun between two counts of begins
pub record Begun (number before now : ℕ) : Type 0 where
  pub exact : before + number ≤ 2 ^ 63 → now ≡ before + number
  pub later : before ≤ now
  pub few : now ≤ before + number
