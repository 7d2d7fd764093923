use Rattle.std.proofs.Common.{◌≡◌, ap, subst, ◌∙◌}
use Rattle.arc_restrict.specs.Rows.{forbids}
use Rattle.search_machine.specs.State.{restriction_of}
use Rattle.search_view.proofs.Examining.{near-ready, ready-open, determined-ok, if_some-each}
use Rattle.search_view.proofs.view.PoolView.determine_at.Goals as goal

pub plot_at-requires : goal.plot_at-requires
plot_at-requires c = ready-open c.args.self.now c.args.node (near-ready c.args.self.now c.args.node c.requires)

pub determined-requires : goal.determined-requires
determined-requires c = if_some-each _ _ (λ node is_node. ap forbids (c.deref.ensures ∙ c.rows.ensures) ∙ (c.plot_at.ensures.kept node is_node).forbidden)

pub returns : goal.returns
returns c =
    let at = c.requires in
    let same : forbids c.deref.result.now ≡ restriction_of at.node = ap forbids (c.deref.ensures ∙ c.rows.ensures) ∙ (c.plot_at.ensures.kept at.node at.ready.open_node.is_node).forbidden in
    determined-ok c.args.self.now c.args.node c.determined.result (forbids c.deref.result.now) c.plot_at.ensures.reachable at same c.determined.ensures
