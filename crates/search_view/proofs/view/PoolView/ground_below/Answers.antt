use Rattle.std.proofs.Common.{length, ap, ◌∙◌}
use Rattle.branch_tree.proofs.LimitLaws.{limit-row, limit-range}
use Rattle.search_view.proofs.Examining.{ready-open, ready-ranges}
use Rattle.search_view.proofs.Reading.{if_ok}
use Rattle.search_view.proofs.Dividings.{ground-made}
use Rattle.search_view.proofs.view.PoolView.ground_below.Goals as goal

pub plot_at-requires : goal.plot_at-requires
plot_at-requires c = ready-open c.args.self.now c.args.node c.requires.leaf

pub below-requires : goal.below-requires
below-requires c =
    let s = c.args.self.now in
    let at = c.requires.leaf in
    let is = c.plot_at.ensures.kept at.node at.ready.open_node.is_node in
    let are = ready-ranges s c.args.node c.plot_at.ensures.reachable at in
    record {
      row = limit-row s.problem c.plot_at.result.now.rows c.args.limit.now is.size c.requires.limit;
      range = limit-range s.problem c.plot_at.result.now.ranges c.args.limit.now (ap length is.ranges ∙ are.count) c.requires.limit;
    }

pub returns : goal.returns
returns c =
    let at = c.requires.leaf in
    if_ok c.below.result _ _
    (λ ground made. ground-made c.args.self.now c.args.node at c.args.limit.now c.plot_at.result.now ground (c.plot_at.ensures.kept at.node at.ready.open_node.is_node) made)
    c.below.ensures
