use Rattle.block_deques.proofs.Gains.{Absorbed}
use Rattle.block_deques.proofs.gathering.absorb_row.Given as goal

-- the passes behind those that are left have come back
abbrev pub invariant-loop-reach : goal.invariant-loop-reach
invariant-loop-reach l = Absorbed l.initial.owners.items l.owners.items l.fn.row.items l.row.items

abbrev pub decreases-loop-reach : goal.decreases-loop-reach
decreases-loop-reach l = goal.left-loop-reach l
