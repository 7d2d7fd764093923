-- The main statement of the program that writes tables: table_run of src/running.rt has it as its contract.
use Rattle.std.specs.Prelude.{ℕ, ◌≡◌, List, codes, IsSomeAnd}
use Rattle.plan_io.specs.declared.shelf.Shelf as Shelf
use Rattle.plan_io.specs.declared.sink.Sink as Sink
use Rattle.plan_base.specs.declared.parts.Parts.{Parts}
use Rattle.snd_network.specs.declared.file.NetworkFile.{NetworkFile}
use Rattle.proof_tree.specs.declared.plan.Plan.{Plan}
use Rattle.proof_tree.specs.Plans.{IsValidPlan, HasItsClaim}
use Rattle.command_texts.specs.declared.status.Status.{Status}
use Rattle.command_texts.specs.declared.status.Status.TheVariants.{Good, Rejected}
use Rattle.command_texts.specs.Answers.{IsRejection}
use Rattle.command_texts.specs.Refusals.{HoldsOfProblem}
use Rattle.command_texts.specs.Texts.{Name, Texts}
use Rattle.run_ends.specs.Programs.{IsRunOn}
use Rattle.verify_runs.specs.VerifyRuns.{names_in, IsEndOfVerdict}
use Rattle.plan_table.specs.Tables.{IsTableText}

-- how the program is called
abbrev pub table_usage : List ℕ
table_usage = codes "usage: sndtable NET MODEL PLAN\n"

-- the plan is a valid one of the instance, so what it claims is so, and these are its tables
pub record IsTableOf (net : NetworkFile) (p : Parts) (plan : Plan) (bytes : List ℕ) : Type 0 where
  pub valid : IsValidPlan p plan
  pub claim : HasItsClaim p plan
  pub text : IsTableText net p plan bytes

-- a valid plan is told, and any other is rejected, with the status that goes with it
pub data IsTable (net : NetworkFile) (p : Parts) (plan : Plan) (status : Status) (bytes : List ℕ) : Type 0 where
  tabled : status ≡ Good → IsTableOf net p plan bytes → IsTable net p plan status bytes
  untabled : status ≡ Rejected → IsRejection p plan bytes → IsTable net p plan status bytes

-- the texts spell an instance within its limits and a plan, and this is told of it
abbrev pub IsTabled : Texts → Status → List ℕ → Type 0
IsTabled texts status bytes = HoldsOfProblem texts (λ net p plan. IsSomeAnd plan (λ made. IsTable net p made status bytes))

-- a run of these words ends with the tables of the plan that they name, with a refusal of words, texts or plan, with a front of such an answer, or with nothing
abbrev pub IsTableRun : {S W : Type 0} → Shelf.Ghosts S → Sink.Ghosts W → List Name → S → S → W → W → Status → Type 0
IsTableRun shelf sink words old new before now status = IsRunOn shelf sink table_usage IsTabled IsEndOfVerdict (names_in words) old new before now status
