use Rattle.std.proofs.Common.{sym}
use Rattle.block_deques.proofs.Moves.{puts_one}
use Rattle.block_deques.proofs.deck.Deck.put.Goals as goal

pub push_as-requires-clause-pushes : goal.push_as-requires-clause-pushes
push_as-requires-clause-pushes c = puts_one _ _ _ c.args.self.now.owned.1 (sym c.args.self.now.listed)
