use Rattle.std.proofs.Common.{◌≡◌, Option, length, IsSome, sym, ap, subst, ◌∙◌}
use Rattle.std.specs.Prelude.{IfSome, slice_get}
use Rattle.plan_base.specs.declared.parts.Parts.{Parts}
use Rattle.arc_restrict.specs.Rows.{forbids}
use Rattle.search_nodes.specs.SearchStates.{machine_state}
use Rattle.search_machine.specs.State.{Node, State, round_of, restriction_of}
use Rattle.search_machine.specs.Soundness.{IsSound}
use Rattle.search_machine.proofs.Runs.{IsReachable-sound}
use Rattle.search_view.specs.Valuing.{ForRound, ArePermittedLists}
use Rattle.search_view.proofs.TaskLaws.{has-round}
use Rattle.search_view.proofs.Reading.{if_ok}
use Rattle.search_view.proofs.Gatherings.{lists-for}
use Rattle.search_view.proofs.view.PoolView.permitted_columns.Goals as goal

pub permitted_lists-requires : goal.permitted_lists-requires
permitted_lists-requires c =
    let s = machine_state c.self.inside.state.now in
    let sound : IsSound s = IsReachable-sound s c.self.invariant.pool.reachable in
    sound.columns.count ∙ ap (λ (p : Parts). length p.demands) (ap (λ (x : State). x.problem) c.self.view_is ∙ sym c.problem.ensures)

pub returns : goal.returns
returns c =
    let s = machine_state c.self.inside.state.now in
    let some : IsSome (round_of s c.args.node) = subst (λ (s : State). IsSome (round_of s c.args.node)) (sym c.self.view_is) c.requires in
    let h = has-round s c.args.node some in
    let rows = c.rows_at.result.now in
    let read : IfSome (slice_get s.nodes c.args.node.0) (λ (x : Node). forbids rows ≡ restriction_of x) =
    subst (λ (u : State). IfSome (slice_get u.nodes c.args.node.0) (λ (x : Node). forbids rows ≡ restriction_of x)) (sym c.self.view_is) c.rows_at.ensures in
    let forbidden : forbids rows ≡ restriction_of h.node = subst (λ (o : Option Node). IfSome o (λ (x : Node). forbids rows ≡ restriction_of x)) h.is_node read in
    let is_p : c.problem.result.now ≡ s.problem = c.problem.ensures ∙ ap (λ (x : State). x.problem) (sym c.self.view_is) in
    if_ok c.permitted_lists.result _ _
    (λ lists are. subst (λ (u : State). ForRound u c.args.node (λ x round. ArePermittedLists (length u.problem.demands) (restriction_of x) u.columns lists)) c.self.view_is
    (lists-for s c.args.node h c.problem.result.now rows lists is_p forbidden are))
    c.permitted_lists.ensures
