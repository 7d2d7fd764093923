use Rattle.std.proofs.Common.{sym, subst}
use Rattle.branch_tree.specs.Branches.{IsLimitOf}
use Rattle.search_machine.specs.State.{Limit}
use Rattle.search_machine.specs.Machine.{IsReachable}
use Rattle.search_machine.proofs.Runs.{IsReachable-sound}
use Rattle.pool_core.specs.Children.{HasChildBehind}
use Rattle.pool_core.proofs.Dividings.{division-ready, division-limits, both-made}
use Rattle.pool_core.proofs.pool.Pool.children_of.Goals as goal

pub add_child-requires-clause-leaf : goal.add_child-requires-clause-leaf
add_child-requires-clause-leaf c = division-ready c.args.self.now c.args.node c.args.division.now c.requires

pub add_child-requires-clause-limit : goal.add_child-requires-clause-limit
add_child-requires-clause-limit c =
    subst (IsLimitOf c.args.self.now.problem) (sym c.in_ok-left.ensures)
    (division-limits c.args.self.now c.args.node c.args.division.now (IsReachable-sound c.args.self.now (subst IsReachable c.self.view_is c.self.invariant.kept.pool.reachable)) c.requires).0

pub add_child-requires-2-clause-leaf : goal.add_child-requires-2-clause-leaf
add_child-requires-2-clause-leaf c = division-ready c.args.self.now c.args.node c.args.division.now c.requires

pub add_child-requires-2-clause-limit : goal.add_child-requires-2-clause-limit
add_child-requires-2-clause-limit c =
    subst (IsLimitOf c.args.self.now.problem) (sym c.in_ok-right.ensures)
    (division-limits c.args.self.now c.args.node c.args.division.now (IsReachable-sound c.args.self.now (subst IsReachable c.self.view_is c.self.invariant.kept.pool.reachable)) c.requires).1

pub returns : goal.returns
returns c =
    both-made c.args.self.now c.args.node c.args.division.now c.new-children.result.items c.add_child.new.children.items c.add_child-2.new.children.items
    c.new-grounds.result.items c.add_child.new.grounds.items c.add_child-2.new.grounds.items
    c.new-children.ensures.items c.new-grounds.ensures.items
    (subst (λ (l : Limit). HasChildBehind c.args.self.now c.args.node l c.new-children.result.items c.new-grounds.result.items c.add_child.new.children.items c.add_child.new.grounds.items) c.in_ok-left.ensures c.in_ok-add_child.ensures)
    (subst (λ (l : Limit). HasChildBehind c.args.self.now c.args.node l c.add_child.new.children.items c.add_child.new.grounds.items c.add_child-2.new.children.items c.add_child-2.new.grounds.items) c.in_ok-right.ensures c.in_ok-add_child-2.ensures)
