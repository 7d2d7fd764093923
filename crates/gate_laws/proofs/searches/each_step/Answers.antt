use Rattle.search_machine.proofs.Runs.{Step-sound}
use Rattle.gate_laws.proofs.searches.each_step.Goals as goal

pub returns : goal.returns
returns c = Step-sound
