use Rattle.search_view.proofs.Dividings.{child-made}
use Rattle.search_view.proofs.view.PoolView.child_at.Goals as goal

pub returns : goal.returns
returns c = child-made c.args.self.now c.args.node c.args.limit c.in_ok-child.child c.in_ok-ground.ground c.in_ok-ground.ensures c.in_ok-child.ensures
