use Rattle.search_machine.proofs.PlanTrees.{tree_of-valid}
use Rattle.search_machine.proofs.laws.tree_of_state.Goals as goal

pub returns : goal.returns
returns c = tree_of-valid
