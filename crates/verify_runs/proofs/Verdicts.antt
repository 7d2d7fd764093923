-- How a run on a verdict ends.
use Rattle.std.proofs.Common.{arith}
use Rattle.command_texts.specs.Answers.{IsVerified}
use Rattle.run_ends.specs.Found.{EndsSo}
use Rattle.run_ends.proofs.Ending.{verdict-ends}
use Rattle.verify_runs.specs.VerifyRuns.{IsEndOfVerdict}

-- a verdict has its own statuses alone
pub verified_ends : EndsSo IsEndOfVerdict IsVerified
verified_ends = record { ends = λ texts status bytes done. verdict-ends done.parts done.plan status bytes done.holds; no_read = grind arith; no_write = grind arith; no_memory = grind arith }
