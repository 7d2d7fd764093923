use Rattle.std.proofs.Common.{length}
use Rattle.plan_of_search.proofs.PlanNumbers.{waiting_for, IsWriting}
use Rattle.plan_of_search.proofs.records.preorder.Given as goal

abbrev pub invariant-loop-number : goal.invariant-loop-number
invariant-loop-number l = IsWriting l.nodes l.order.items l.waiting.items

-- how many numbers are still to be written
abbrev pub decreases-loop-number : goal.decreases-loop-number
decreases-loop-number l = length (waiting_for l.nodes l.waiting.items)
