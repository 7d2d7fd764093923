-- What a program exits with.
use Rattle.std.specs.Prelude.{◌≡◌, ◌⊎◌}
use Rattle.std.specs.Process.{exit_status}
use Rattle.std.specs.declared.process.ExitCode.{ExitCode}
use Rattle.command_texts.specs.declared.status.Status.{Status}
use Rattle.command_texts.specs.declared.status.Status.TheVariants.{OutOfMemory}
use Rattle.command_texts.specs.Statuses.{exit_number}

-- the exit status is the number of a status with which the run ended so, or of want of memory for the words
pub record ExitsSo (HasEnded : Status → Type 0) (code : ExitCode) : Type 0 where
  pub status : Status
  pub ended : HasEnded status ⊎ (status ≡ OutOfMemory)
  pub number : exit_status code ≡ exit_number status
