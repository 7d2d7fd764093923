use Rattle.std.proofs.Common.{◌≡◌, ◌↔◌, false, List, refl, sym, subst, ◌∙◌}
use Rattle.std.specs.Prelude.{IsTrue}
use Rattle.plan_base.specs.declared.parts.Parts.{Parts}
use Rattle.link_steps.specs.declared.range.LoadRange.{LoadRange}
use Rattle.link_steps.specs.Ranges.{AreRanges}
use Rattle.branch_tree.specs.declared.node.Divider.TheVariants as divider
use Rattle.search_machine.specs.State.{restriction_of, ranges_of, region_of}
use Rattle.search_machine.specs.Dividing.{PartsSteps, PartsBy}
use Rattle.search_view.specs.Examining.{IsReadyAt}
use Rattle.search_view.proofs.Examining.{ready-open, ready-ranges}
use Rattle.search_view.proofs.Dividings.{two-ready, two-choice, division-made, no_parts-at}
use Rattle.search_view.proofs.view.PoolView.load_division_at.Goals as goal

pub plot_at-requires : goal.plot_at-requires
plot_at-requires c = ready-open c.args.self.now c.args.node (two-ready c.args.self.now c.args.node c.args.two.demand c.args.two.first.now c.args.two.second.now c.requires)

pub parts_steps-requires-clause-ranges : goal.parts_steps-requires-clause-ranges
parts_steps-requires-clause-ranges c =
    let s = c.args.self.now in
    let two = c.requires in
    let at : IsReadyAt s c.args.node = two-ready s c.args.node c.args.two.demand c.args.two.first.now c.args.two.second.now two in
    let same : c.deref.result.now ≡ ranges_of s.problem two.node = c.deref.ensures ∙ (c.ranges-ranges.ensures ∙ (c.plot_at.ensures.kept two.node two.ready.open_node.is_node).ranges) in
    subst (λ (p : Parts). AreRanges p c.deref.result.now) (sym c.problem.ensures)
    (subst (AreRanges s.problem) (sym same) (ready-ranges s c.args.node c.plot_at.ensures.reachable at))

pub returns-then-parts_steps-clause-some : goal.returns-then-parts_steps-clause-some
returns-then-parts_steps-clause-some c =
    let s = c.args.self.now in
    let two = c.requires in
    let same : c.deref.result.now ≡ ranges_of s.problem two.node = c.deref.ensures ∙ (c.ranges-ranges.ensures ∙ (c.plot_at.ensures.kept two.node two.ready.open_node.is_node).ranges) in
    let parts : PartsSteps s.problem (ranges_of s.problem two.node) c.args.split = subst (λ (p : Parts). PartsSteps p (ranges_of s.problem two.node) c.args.split) c.problem.ensures
    (subst (λ (xs : List LoadRange). PartsSteps c.problem.result.now xs c.args.split) same (c.if-parts_steps.ensures.0 refl)) in
    let both : PartsBy s.problem (region_of s.problem two.node) (divider.Load c.args.split) = (parts, two-choice s.problem (restriction_of two.node) c.args.two.demand.0 c.args.two.first.now c.args.two.second.now two.two) in
    division-made s c.args.node c.args.two.demand c.args.two.first.now c.args.two.second.now two c.division.result (subst (PartsBy s.problem (region_of s.problem two.node)) (sym c.division.ensures.by) both) c.division.ensures.left c.division.ensures.right

pub returns-clause-none : goal.returns-clause-none
returns-clause-none c =
    let s = c.args.self.now in
    let at : IsReadyAt s c.args.node = two-ready s c.args.node c.args.two.demand c.args.two.first.now c.args.two.second.now c.requires in
    let same : c.deref.result.now ≡ ranges_of s.problem at.node = c.deref.ensures ∙ (c.ranges-ranges.ensures ∙ (c.plot_at.ensures.kept at.node at.ready.open_node.is_node).ranges) in
    let told : IsTrue false ↔ PartsSteps s.problem c.deref.result.now c.args.split = subst (λ (p : Parts). IsTrue false ↔ PartsSteps p c.deref.result.now c.args.split) c.problem.ensures c.if-parts_steps.ensures in
    no_parts-at s c.args.node at c.args.split c.deref.result.now same told
