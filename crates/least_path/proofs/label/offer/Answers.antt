use Rattle.least_path.proofs.OfferLaws.{offered-taken, offered-left}
use Rattle.least_path.proofs.label.offer.Goals as goal

pub returns-then-is_better : goal.returns-then-is_better
returns-then-is_better c = offered-taken c.args.labels.now.items c.args.node.0 c.args.label c.index.result.now c.requires c.index.ensures c.if-is_better.ensures

pub returns-else-is_better : goal.returns-else-is_better
returns-else-is_better c = offered-left c.args.labels.now.items c.args.node.0 c.args.label c.index.result.now c.requires c.index.ensures c.if-is_better.ensures
