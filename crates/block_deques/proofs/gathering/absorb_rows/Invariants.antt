use Rattle.block_deques.proofs.Gains.{RowsAbsorbed}
use Rattle.block_deques.proofs.gathering.absorb_rows.Given as goal

-- the rows behind those that are left have come back
abbrev pub invariant-loop-row : goal.invariant-loop-row
invariant-loop-row l = RowsAbsorbed l.fn.owners.items l.owners.items l.fn.rows.items l.rows.items

abbrev pub decreases-loop-row : goal.decreases-loop-row
decreases-loop-row l = goal.left-loop-row l
