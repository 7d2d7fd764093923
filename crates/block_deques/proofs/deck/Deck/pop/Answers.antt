use Rattle.std.proofs.Common.{arith}
use Rattle.block_deques.proofs.Moves.{takes_one}
use Rattle.block_deques.proofs.deck.Deck.pop.Goals as goal

pub pop_as-requires-clause-fifo : goal.pop_as-requires-clause-fifo
pop_as-requires-clause-fifo c _ = let o = c.args.self.now.owned.2 in let n = c.args.self.now.counted.1 in takes_one _ _ (omega arith)
