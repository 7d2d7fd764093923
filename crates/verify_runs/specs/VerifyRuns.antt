-- The main statement of the verifier alone: verify_run of src/verifying.rt has it as its contract.
use Rattle.std.specs.Prelude.{ℕ, ◌≡◌, ◌⊎◌, List, [], ◌∷◌, codes, Option, Some, None}
use Rattle.plan_io.specs.declared.shelf.Shelf as Shelf
use Rattle.plan_io.specs.declared.sink.Sink as Sink
use Rattle.command_texts.specs.declared.status.Status.{Status}
use Rattle.command_texts.specs.declared.status.Status.TheVariants.{Good, Rejected}
use Rattle.command_texts.specs.Texts.{Name, Texts, three}
use Rattle.command_texts.specs.Answers.{IsVerified}
use Rattle.run_ends.specs.Programs.{IsRunOn}

-- the names that the words give: those of a network, a model and a plan
abbrev pub names_in : List Name → Option Texts
names_in (network ∷ model ∷ plan ∷ []) = Some (three network model plan)
names_in _ = None

-- how the program is called
abbrev pub verify_usage : List ℕ
verify_usage = codes "usage: sndverify NET MODEL PLAN\n"

-- the statuses of a verdict
abbrev pub IsEndOfVerdict : Status → Type 0
IsEndOfVerdict status = (status ≡ Good) ⊎ (status ≡ Rejected)

-- a run of these words ends with the verdict on the plan that they name, with a refusal of words or texts, with a front of such an answer, or with nothing
abbrev pub IsVerifyRun : {S W : Type 0} → Shelf.Ghosts S → Sink.Ghosts W → List Name → S → S → W → W → Status → Type 0
IsVerifyRun shelf sink words old new before now status = IsRunOn shelf sink verify_usage IsVerified IsEndOfVerdict (names_in words) old new before now status
