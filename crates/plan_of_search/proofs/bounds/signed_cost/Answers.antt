use Rattle.search_nodes.specs.SearchStates.{machine_state}
use Rattle.plan_of_search.proofs.LeafBounds.{held-small}
use Rattle.plan_of_search.proofs.bounds.signed_cost.Goals as goal

pub signed-requires : goal.signed-requires
signed-requires c = held-small (machine_state c.args.state.now) c.in-Some.held c.requires c.in-Some.is
