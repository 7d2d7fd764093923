use Rattle.least_path.proofs.OfferLaws.{offered-taken, offered-left}
use Rattle.least_path.proofs.WaitLaws.{offered-wait}
use Rattle.least_path.proofs.queue.offer.Goals as goal

pub returns-in_ok-push-clause-labels : goal.returns-in_ok-push-clause-labels
returns-in_ok-push-clause-labels c = offered-taken c.args.labels.now.items c.args.node.0 c.args.label c.index.result.now c.requires.within c.index.ensures c.if-is_better.ensures

pub returns-in_ok-push-clause-waits : goal.returns-in_ok-push-clause-waits
returns-in_ok-push-clause-waits c = offered-wait c.args.labels.now.items c.args.node.0 c.args.label c.args.queue.now c.push.new.self c.requires.within c.requires.waits c.in_ok-push.ensures

pub returns-else-is_better-clause-labels : goal.returns-else-is_better-clause-labels
returns-else-is_better-clause-labels c = offered-left c.args.labels.now.items c.args.node.0 c.args.label c.index.result.now c.requires.within c.index.ensures c.if-is_better.ensures
