use Rattle.std.proofs.Common.{◌≡◌, Option, ap, subst, ◌∙◌}
use Rattle.std.specs.Prelude.{IfOk, IfSome, IfNone}
use Rattle.plan_base.specs.declared.ids.DemandId.{DemandId}
use Rattle.plan_base.specs.declared.parts.Parts.{Parts}
use Rattle.arc_restrict.specs.Rows.{forbids}
use Rattle.search_machine.specs.State.{restriction_of}
use Rattle.search_machine.specs.Readiness.{IsFirstFar, NoneFar}
use Rattle.search_view.proofs.Examining.{ready-open}
use Rattle.search_view.proofs.FarLaws.{far-ok, near-ok}
use Rattle.search_view.proofs.view.PoolView.far_at.Goals as goal

pub plot_at-requires : goal.plot_at-requires
plot_at-requires c = ready-open c.args.self.now c.args.node c.requires

pub returns : goal.returns
returns c =
    let at = c.requires in
    let r = forbids c.deref.result.now in
    let same : r ≡ restriction_of at.node = ap forbids (c.deref.ensures ∙ c.rows-rows.ensures) ∙ (c.plot_at.ensures.kept at.node at.ready.open_node.is_node).forbidden in
    record {
      some = far-ok c.args.self.now c.args.node r at same c.first_far.result
          (subst (λ (p : Parts). IfOk c.first_far.result (λ (found : Option DemandId). IfSome found (IsFirstFar p r))) c.problem.ensures c.first_far.ensures.some);
      none = near-ok c.args.self.now c.args.node r at same c.first_far.result
          (subst (λ (p : Parts). IfOk c.first_far.result (λ (found : Option DemandId). IfNone found (NoneFar p r))) c.problem.ensures c.first_far.ensures.none);
    }
