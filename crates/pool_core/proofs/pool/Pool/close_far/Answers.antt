use Rattle.std.proofs.Common.{sym, subst}
use Rattle.search_machine.specs.Machine.{IsReachable}
use Rattle.search_machine.specs.Examining.{ClosesFar}
use Rattle.pool_core.proofs.FarPool.{far-open, far-not_spent, far-closes, far-reachable}
use Rattle.pool_core.proofs.pool.Pool.close_far.Goals as goal

pub close-requires-clause-leaf : goal.close-requires-clause-leaf
close-requires-clause-leaf c = far-open c.args.self.now c.args.node c.args.demand c.requires

pub close-requires-clause-not_spent : goal.close-requires-clause-not_spent
close-requires-clause-not_spent c = far-not_spent c.args.self.now c.args.node c.args.demand c.requires

pub close-requires-clause-event : goal.close-requires-clause-event
close-requires-clause-event c = far-reachable c.args.self.now c.args.node c.args.demand c.requires (subst IsReachable c.self.view_is c.self.invariant.kept.pool.reachable)

pub returns : goal.returns
returns c = subst (ClosesFar c.args.self.now c.args.node c.args.demand) (sym c.close.ensures) (far-closes c.args.self.now c.args.node c.args.demand c.requires)
