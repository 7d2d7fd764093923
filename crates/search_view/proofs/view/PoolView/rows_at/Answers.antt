use Rattle.std.proofs.Common.{ap, subst, ◌∙◌}
use Rattle.arc_restrict.specs.Rows.{forbids}
use Rattle.search_machine.specs.Machine.{IsReachable}
use Rattle.search_view.proofs.Examining.{round-open, if_some-each}
use Rattle.search_view.proofs.view.PoolView.rows_at.Goals as goal

pub plot_at-requires : goal.plot_at-requires
plot_at-requires c = round-open c.args.self.now c.args.node (subst IsReachable c.self.view_is c.self.invariant.pool.reachable) c.requires

pub returns : goal.returns
returns c = if_some-each _ _ (λ node is_node. ap forbids (c.deref.ensures ∙ c.rows.ensures) ∙ (c.plot_at.ensures.kept node is_node).forbidden)
