use Rattle.std.proofs.Common.{length}
use Rattle.branch_tree.proofs.RecordLaws.{waiting_for, IsWriting}
use Rattle.branch_tree.proofs.records.records_of.Given as goal

abbrev pub invariant-loop-id : goal.invariant-loop-id
invariant-loop-id l = IsWriting l.nodes l.records.items l.waiting.items

-- how many records are still to be written
abbrev pub decreases-loop-id : goal.decreases-loop-id
decreases-loop-id l = length (waiting_for l.nodes l.waiting.items)
