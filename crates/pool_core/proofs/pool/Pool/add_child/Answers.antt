use Rattle.std.proofs.Common.{sym, subst}
use Rattle.branch_tree.specs.Branches.{IsLimitOf}
use Rattle.search_machine.specs.State.{State}
use Rattle.search_view.specs.Examining.{IsReadyAt, IsChildAt}
use Rattle.pool_core.proofs.pool.Pool.add_child.Goals as goal

pub child_at-requires-clause-leaf : goal.child_at-requires-clause-leaf
child_at-requires-clause-leaf c = subst (λ (s : State). IsReadyAt s c.args.node) (sym c.view.ensures) c.requires.leaf

pub child_at-requires-clause-limit : goal.child_at-requires-clause-limit
child_at-requires-clause-limit c = subst (λ (s : State). IsLimitOf s.problem c.args.limit) (sym c.view.ensures) c.requires.limit

pub returns : goal.returns
returns c = record {
  made = record {
    child = c.in_ok-child.child;
    ground = c.in_ok-child.ground;
    is_child = subst (λ (s : State). IsChildAt s c.args.node c.args.limit c.in_ok-child.child c.in_ok-child.ground) c.view.ensures c.in_ok-child.ensures;
  };
  nodes_are = c.in_ok-push.ensures.items;
  grounds_are = c.in_ok-push-2.ensures.items;
}
