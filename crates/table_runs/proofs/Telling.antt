-- From a plan's tables to how a run ends.
use Rattle.std.proofs.Common.{ℕ, List, Option, Some, None, inl, inr, arith}
use Rattle.std.specs.Prelude.{IsSomeAnd}
use Rattle.plan_base.specs.declared.parts.Parts.{Parts}
use Rattle.snd_network.specs.declared.file.NetworkFile.{NetworkFile}
use Rattle.proof_tree.specs.declared.plan.Plan.{Plan}
use Rattle.command_texts.specs.declared.status.Status.{Status}
use Rattle.command_texts.specs.Texts.{Told, Texts, HoldsOfTexts}
use Rattle.command_texts.specs.Refusals.{IsProblem}
use Rattle.run_ends.specs.Found.{EndsSo}
use Rattle.verify_runs.specs.VerifyRuns.{IsEndOfVerdict}
use Rattle.table_runs.specs.TableRuns.{IsTable, tabled, untabled, IsTabled}

-- what is told of the instance and the plan that the read texts spell is told of these texts
pub tabled_texts : (names : Texts) (shelf : Told) (begun : ℕ) (net : NetworkFile) (parts : Parts) (plan : Plan) (status : Status) (bytes : List ℕ)
    → HoldsOfTexts shelf names begun (λ texts. IsProblem texts net parts (Some plan)) → IsTable net parts plan status bytes → HoldsOfTexts shelf names begun (λ texts. IsTabled texts status bytes)
tabled_texts names shelf begun net parts plan status bytes h is = record { texts = h.texts; read = h.read; holds = record { net = net; parts = parts; plan = Some plan; problem = h.holds; holds = is } }

table-ends : (net : NetworkFile) (parts : Parts) (plan : Option Plan) (status : Status) (bytes : List ℕ) → IsSomeAnd plan (λ made. IsTable net parts made status bytes) → IsEndOfVerdict status
table-ends net parts None status bytes is = absurd is
table-ends net parts (Some plan) status bytes (tabled good is) = inl good
table-ends net parts (Some plan) status bytes (untabled bad is) = inr bad

-- work that tells tables ends with the statuses of a verdict alone, good or rejected
pub tabled_ends : EndsSo IsEndOfVerdict IsTabled
tabled_ends = record { ends = λ texts status bytes done. table-ends done.net done.parts done.plan status bytes done.holds; no_read = grind arith; no_write = grind arith; no_memory = grind arith }
