use Rattle.search_machine.proofs.Runs.{IsReachable-sound}
use Rattle.search_machine.proofs.laws.every_run.Goals as goal

pub returns : goal.returns
returns c = IsReachable-sound
