use Rattle.search_view.proofs.Leaves.{reachable-unspent}
use Rattle.search_view.proofs.view.PoolView.open_task.Goals as goal

pub unclaimed-requires-clause-not_spent : goal.unclaimed-requires-clause-not_spent
unclaimed-requires-clause-not_spent c = reachable-unspent c.args.self.now c.requires.reachable c.requires.not_done

pub step_at-requires-clause-not_spent : goal.step_at-requires-clause-not_spent
step_at-requires-clause-not_spent c = reachable-unspent c.args.self.now c.requires.reachable c.requires.not_done

pub unreachable-requires : goal.unreachable-requires
unreachable-requires c = c.next_leaf.ensures.none c.in-None.is
