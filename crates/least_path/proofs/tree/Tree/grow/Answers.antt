use Rattle.least_path.proofs.TreeLaws.{all-settled}
use Rattle.least_path.proofs.tree.Tree.grow.Goals as goal

pub reach-requires-clause-lawful : goal.reach-requires-clause-lawful
reach-requires-clause-lawful c = c.arcs.ensures.lawful

pub returns : goal.returns
returns c =
    let told = c.in_ok-labels.ensures in
    all-settled c.args.inst.now c.args.weights.now c.args.source (record { 0 = c.nodes.result }) _ _ c.nodes.ensures.value told.search told.nearest told.at_target told.none
