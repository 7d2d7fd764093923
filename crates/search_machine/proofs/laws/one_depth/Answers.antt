use Rattle.search_machine.proofs.EndLists.{some-depth, depth-unique}
use Rattle.search_machine.proofs.laws.one_depth.Goals as goal

pub returns : goal.returns
returns c = record { some = some-depth; one = depth-unique }
