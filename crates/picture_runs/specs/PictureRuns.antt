-- The main statement of the program that draws plans: picture_run of src/running.rt has it as its contract.
use Rattle.std.specs.Prelude.{ℕ, ◌≡◌, ◌≢◌, ◌<◌, ◌⊎◌, List, [], ◌∷◌, length, codes, option_map, option_and_then, Option, Some, None, IsSomeAnd}
use Rattle.plan_io.specs.declared.shelf.Shelf as Shelf
use Rattle.plan_io.specs.declared.sink.Sink as Sink
use Rattle.std.specs.Borrow.{Bor}
use Rattle.option_words.specs.Given.{told}
use Rattle.plan_base.specs.declared.parts.Parts.{Parts}
use Rattle.snd_network.specs.declared.file.NetworkFile.{NetworkFile}
use Rattle.proof_tree.specs.declared.plan.Plan.{Plan}
use Rattle.proof_tree.specs.Plans.{IsValidPlan}
use Rattle.plan_report.specs.Reports.{demand_name}
use Rattle.command_texts.specs.declared.status.Status.{Status}
use Rattle.command_texts.specs.declared.status.Status.TheVariants.{Good, Usage, Rejected}
use Rattle.command_texts.specs.Answers.{IsRejection}
use Rattle.command_texts.specs.Refusals.{HoldsOfProblem}
use Rattle.command_texts.specs.Texts.{Name, Texts, three}
use Rattle.run_ends.specs.Programs.{IsRunOn}
use Rattle.plan_picture.specs.Pictures.{IsPicture}

-- how the program is called
abbrev pub picture_usage : List ℕ
picture_usage = codes "usage: sndpicture NET MODEL PLAN [--demand NAME]\n"

-- what is asked for: the names of a network, a model and a plan, and perhaps that of a demand to be lit
abbrev pub Asked : Type 0
Asked = Texts × Option Name

-- what the names of the texts and the option are given
unfoldable pub asked_of : List (Option Name) → Option Asked
asked_of (Some network ∷ Some model ∷ Some plan ∷ name ∷ []) = Some (three network model plan, name)
asked_of _ = None

-- what the words ask for, where they can be read so
abbrev pub asked_in : List Name → Option Asked
asked_in words = option_and_then asked_of (told (codes "network" ∷ codes "model" ∷ codes "plan" ∷ []) (codes "demand" ∷ []) words)

-- the names of texts that the words give
abbrev pub asked_names : List Name → Option Texts
asked_names words = option_map (λ asked. asked.0) (asked_in words)

-- the name of the demand that the words ask to be lit
abbrev pub lit_in : List Name → Option Name
lit_in words = option_and_then (λ asked. asked.1) (asked_in words)

-- what the words behind references ask for
abbrev pub asked_now : Bor Name × Bor Name × Bor Name × Option (Bor Name) → Asked
asked_now asked = (three asked.0.now asked.1.now asked.2.now, option_map (λ name. name.now) asked.3)

-- the demand of this number is the one to be lit, and none is where none is named
abbrev pub IsLit : NetworkFile → Parts → Option Name → Option ℕ → Type 0
IsLit net p None None = Unit {0}
IsLit net p (Some name) (Some k) = (k < length p.demands) × (name ≡ demand_name net k)
IsLit net p name k = ⊥

-- a demand is named, and none has this name
abbrev pub IsMissing : NetworkFile → Parts → Option Name → Type 0
IsMissing net p None = ⊥
IsMissing net p (Some name) = (k : ℕ) → k < length p.demands → name ≢ demand_name net k

-- the plan is a valid one of the instance, and this is a picture of it with the light that is asked for
pub record IsPictureOf (net : NetworkFile) (p : Parts) (plan : Plan) (name : Option Name) (bytes : List ℕ) : Type 0 where
  pub valid : IsValidPlan p plan
  pub lit : Option ℕ
  pub named : IsLit net p name lit
  pub picture : IsPicture net p plan lit bytes

-- the plan is a valid one of the instance, and no demand has the name that is asked for, which is told by the usage
pub record IsNamedInVain (net : NetworkFile) (p : Parts) (plan : Plan) (name : Option Name) (bytes : List ℕ) : Type 0 where
  pub valid : IsValidPlan p plan
  pub missing : IsMissing net p name
  pub line : bytes ≡ picture_usage

-- a valid plan is drawn, unless a name is in vain, and any other is rejected, with the status that goes with it
pub data IsDrawnSo (net : NetworkFile) (p : Parts) (plan : Plan) (name : Option Name) (status : Status) (bytes : List ℕ) : Type 0 where
  drawn : status ≡ Good → IsPictureOf net p plan name bytes → IsDrawnSo net p plan name status bytes
  unnamed : status ≡ Usage → IsNamedInVain net p plan name bytes → IsDrawnSo net p plan name status bytes
  undrawn : status ≡ Rejected → IsRejection p plan bytes → IsDrawnSo net p plan name status bytes

-- the texts spell an instance within its limits and a plan, and this is drawn of it
abbrev pub IsDrawn : Option Name → Texts → Status → List ℕ → Type 0
IsDrawn name texts status bytes = HoldsOfProblem texts (λ net p plan. IsSomeAnd plan (λ made. IsDrawnSo net p made name status bytes))

-- the statuses of a drawing
abbrev pub IsEndOfDrawing : Status → Type 0
IsEndOfDrawing status = (status ≡ Good) ⊎ (status ≡ Rejected) ⊎ (status ≡ Usage)

-- a run of these words ends with the picture that they ask for, with a refusal of words, texts or plan, with a front of such an answer, or with nothing
abbrev pub IsPictureRun : {S W : Type 0} → Shelf.Ghosts S → Sink.Ghosts W → List Name → S → S → W → W → Status → Type 0
IsPictureRun shelf sink words old new before now status = IsRunOn shelf sink picture_usage (IsDrawn (lit_in words)) IsEndOfDrawing (asked_names words) old new before now status
