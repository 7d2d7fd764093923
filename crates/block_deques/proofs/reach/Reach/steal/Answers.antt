use Rattle.std.proofs.Common.{rules}
use Rattle.block_deques.proofs.Moves.{takes_one}
use Rattle.block_deques.proofs.reach.Reach.steal.Goals as goal

pub steal_as-requires-clause-takes : goal.steal_as-requires-clause-takes
steal_as-requires-clause-takes g c = takes_one _ _ (search rules)
