use Rattle.std.proofs.Common.{◌≡◌, ◌<◌, length, refl, sym, ap, subst, ◌∙◌}
use Rattle.std.specs.Prelude.{IsNone}
use Rattle.plan_base.specs.declared.parts.Parts.{Parts}
use Rattle.arc_restrict.specs.Restrictions.{Forbidden}
use Rattle.arc_restrict.specs.Rows.{forbids}
use Rattle.branch_tree.specs.declared.node.Divider.TheVariants as divider
use Rattle.search_machine.specs.State.{ArcSplit, restriction_of, region_of}
use Rattle.search_machine.specs.Dividing.{PartsBy}
use Rattle.arc_restrict.specs.Partings.{AreOfOneDemand, PartAt}
use Rattle.plan_base.specs.Leaving.{AreLeaving}
use Rattle.branch_tree.specs.Dealing.{goes_left, goes_right, picked, AreDealt}
use Rattle.search_view.proofs.Examining.{ready-open}
use Rattle.search_view.proofs.Dividings.{of_one_demand, parts-at, two-ready, division-made}
use Rattle.search_view.proofs.view.PoolView.division_at.Goals as goal

pub plot_at-requires : goal.plot_at-requires
plot_at-requires c = ready-open c.args.self.now c.args.node (two-ready c.args.self.now c.args.node c.args.two.demand c.args.two.first.now c.args.two.second.now c.requires)

pub divergence-requires : goal.divergence-requires
divergence-requires c =
    subst (λ (p : Parts). AreOfOneDemand p c.args.two.first.now c.args.two.second.now) (sym c.problem-inst.ensures)
    (of_one_demand c.args.self.now.problem _ c.args.two.demand.0 c.args.two.first.now c.args.two.second.now c.requires.two)

-- the two paths are different
pub unreachable-requires : goal.unreachable-requires
unreachable-requires c =
    c.requires.two.other.different (sym (c.divergence.ensures.none.0 (subst IsNone (sym c.in_default.is) refl)))

pub leaving-requires : goal.leaving-requires
leaving-requires c =
    c.in-Some.ensures.within

pub returns : goal.returns
returns c =
    let two = c.requires in
    let p = c.args.self.now.problem in
    let problem : c.problem-inst.result.now ≡ p = c.problem-inst.ensures in
    let one = c.in-Some.one in
    let other = c.in-Some.other in
    let leaving = c.leaving.result.now in
    let same : forbids c.deref.result.now ≡ restriction_of two.node = ap forbids (c.deref.ensures ∙ c.rows-rows.ensures) ∙ (c.plot_at.ensures.kept two.node two.ready.open_node.is_node).forbidden in
    let d : ArcSplit = record { demand = c.args.two.demand; at = c.in-Some.at; left = c.from_vec.result; right = c.from_vec-2.result } in
    let within = subst (λ (q : Parts). d.at.0 < q.nodes) problem c.in-Some.ensures.within in
    let part = subst (λ (q : Parts). PartAt q c.args.two.first.now c.args.two.second.now d.at one other) problem c.in-Some.ensures.parts in
    let dealt : AreDealt p (restriction_of two.node) d.demand d.at one other d.left d.right = record {
      leaving = leaving;
      are_leaving = subst (λ (q : Parts). AreLeaving q d.at.0 leaving) problem c.leaving.ensures.value;
      left_is = c.from_vec.ensures ∙ (c.in_ok-sides.ensures.left ∙ ap (λ (r : Forbidden). picked (goes_left r d.demand.0 one other leaving) leaving (length leaving)) same);
      right_is = c.from_vec-2.ensures ∙ (c.in_ok-sides.ensures.right ∙ ap (λ (r : Forbidden). picked (goes_right r d.demand.0 one other leaving) leaving (length leaving)) same);
    } in
    let parts : PartsBy p (region_of p two.node) (divider.Arcs d) = parts-at p (restriction_of two.node) d one other c.args.two.first.now c.args.two.second.now within two.two part dealt in
    division-made c.args.self.now c.args.node c.args.two.demand c.args.two.first.now c.args.two.second.now two c.division.result (subst (PartsBy p (region_of p two.node)) (sym c.division.ensures.by) parts) c.division.ensures.left c.division.ensures.right
