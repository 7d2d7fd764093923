use Rattle.completions.proofs.CompletionLaws.{least-completed, IsCompletion-completed}
use Rattle.completions.proofs.completing.complete.Goals as goal

pub returns-in_default-clause-none : goal.returns-in_default-clause-none
returns-in_default-clause-none c = rw c.in_default.is at c.in_ok-cost.ensures.none

pub returns-clause-some : goal.returns-clause-some
returns-clause-some c = IsCompletion-completed c.args.table.now c.args.paths c.in-Some.cost c.in-Some.counts c.requires.paths (rw c.in-Some.is at c.in_ok-cost.ensures.some)

pub returns-clause-counts : goal.returns-clause-counts
returns-clause-counts c = least-completed c.args.table.now c.args.paths c.in-Some.cost c.in-Some.counts c.requires.paths (rw c.in-Some.is at c.in_ok-cost.ensures.some)
