use Rattle.least_path.proofs.WaitLaws.{others-wait, stale-wait}
use Rattle.least_path.proofs.queue.next.Goals as goal

pub returns-in-Some-fresh-clause-others : goal.returns-in-Some-fresh-clause-others
returns-in-Some-fresh-clause-others c = others-wait c.args.labels.now c.loop-first.queue c.pop.new.self c.in-Some.first c.loop-first.invariant c.in-Some.ensures.taken

pub loop-first-preserved : goal.loop-first-preserved
loop-first-preserved c = stale-wait c.args.labels.now c.loop-first.queue c.pop.new.self c.in-Some.first c.loop-first.invariant c.in-Some.ensures.taken c.in_default-fresh.ensures.stale
