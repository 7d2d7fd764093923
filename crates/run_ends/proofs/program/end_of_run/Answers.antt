use Rattle.std.proofs.Common.{inr, refl}
use Rattle.command_texts.specs.declared.status.Status.TheVariants.{OutOfMemory}
use Rattle.run_ends.proofs.program.end_of_run.Goals as goal

pub returns-in_default : goal.returns-in_default
returns-in_default g c = record { status = OutOfMemory; ended = inr refl; number = c.code_of.ensures }
