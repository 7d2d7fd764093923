use Rattle.search_machine.proofs.Runs.{Run-counted}
use Rattle.search_machine.proofs.laws.counted_run.Goals as goal

pub returns : goal.returns
returns c = Run-counted
