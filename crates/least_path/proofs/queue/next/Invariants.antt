use Rattle.std.proofs.Common.{length}
use Rattle.least_path.specs.Waits.{AllWait}
use Rattle.least_path.proofs.queue.next.Given as goal

abbrev pub invariant-loop-first : goal.invariant-loop-first
invariant-loop-first l = AllWait l.labels l.queue

abbrev pub decreases-loop-first : goal.decreases-loop-first
decreases-loop-first l = length l.queue
