use Rattle.search_machine.proofs.Rising.{child-rises}
use Rattle.search_machine.proofs.laws.child_rises.Goals as goal

pub returns : goal.returns
returns c = child-rises
