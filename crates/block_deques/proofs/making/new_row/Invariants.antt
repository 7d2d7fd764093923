use Rattle.block_deques.proofs.Makes.{Halfway}
use Rattle.block_deques.proofs.making.new_row.Given as goal

-- the deques so far have given a part away
abbrev pub invariant-loop-place : goal.invariant-loop-place
invariant-loop-place l = Halfway l.initial.owners.items l.owners.items l.row.items l.place
