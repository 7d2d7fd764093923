use Rattle.block_deques.proofs.Moves.{forks}
use Rattle.block_deques.proofs.making.new_reach.Goals as goal

pub another-pass-requires : goal.another-pass-requires
another-pass-requires c = forks _ _ c.requires.1
