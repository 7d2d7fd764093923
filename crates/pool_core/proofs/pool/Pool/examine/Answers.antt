use Rattle.std.proofs.Common.{sym, subst, ◌∙◌, ap, slice_get}
use Rattle.search_machine.specs.Machine.{IsReachable}
use Rattle.search_machine.specs.Examining.{ClosesByCut}
use Rattle.pool_core.proofs.Examining.{examine_refusal-none, examine_refusal-refusal, cut-reason, cut-closes, cut-reachable, ready-at}
use Rattle.search_machine.specs.State.{State}
use Rattle.search_machine.specs.Readiness.{examine_refusal}
use Rattle.search_machine.specs.Changes.{has_cut}
use Rattle.pool_core.proofs.pool.Pool.examine.Goals as goal

pub returns-in-Some : goal.returns-in-Some
returns-in-Some c = record { event = examine_refusal-refusal c.args.self.now c.args.node c.in-Some.refusal (sym (c.examine_refusal.ensures ∙ ap (λ (s : State). examine_refusal s c.args.node) c.view.ensures) ∙ c.in-Some.is) }

pub close-requires-clause-leaf : goal.close-requires-clause-leaf
close-requires-clause-leaf c = (examine_refusal-none c.args.self.now c.args.node (sym (c.examine_refusal.ensures ∙ ap (λ (s : State). examine_refusal s c.args.node) c.view.ensures) ∙ c.in_default.is)).is_open

pub close-requires-clause-not_spent : goal.close-requires-clause-not_spent
close-requires-clause-not_spent c = (examine_refusal-none c.args.self.now c.args.node (sym (c.examine_refusal.ensures ∙ ap (λ (s : State). examine_refusal s c.args.node) c.view.ensures) ∙ c.in_default.is)).open_node.not_spent

pub close-requires-clause-reason : goal.close-requires-clause-reason
close-requires-clause-reason c = cut-reason c.args.self.now c.args.node
    (examine_refusal-none c.args.self.now c.args.node (sym (c.examine_refusal.ensures ∙ ap (λ (s : State). examine_refusal s c.args.node) c.view.ensures) ∙ c.in_default.is))
    (sym (c.has_cut.ensures ∙ ap (λ (s : State). has_cut (slice_get s.nodes c.args.node.0)) c.view-2.ensures) ∙ c.if-has_cut.true)

pub close-requires-clause-event : goal.close-requires-clause-event
close-requires-clause-event c =
    cut-reachable c.args.self.now c.args.node
    (examine_refusal-none c.args.self.now c.args.node (sym (c.examine_refusal.ensures ∙ ap (λ (s : State). examine_refusal s c.args.node) c.view.ensures) ∙ c.in_default.is))
    (sym (c.has_cut.ensures ∙ ap (λ (s : State). has_cut (slice_get s.nodes c.args.node.0)) c.view-2.ensures) ∙ c.if-has_cut.true)
    (subst IsReachable c.self.view_is c.self.invariant.kept.pool.reachable)

pub returns-then-has_cut : goal.returns-then-has_cut
returns-then-has_cut c = record {
  event = subst (ClosesByCut c.args.self.now c.args.node) (sym c.close.ensures)
      (cut-closes c.args.self.now c.args.node (examine_refusal-none c.args.self.now c.args.node (sym (c.examine_refusal.ensures ∙ ap (λ (s : State). examine_refusal s c.args.node) c.view.ensures) ∙ c.in_default.is))
      (sym (c.has_cut.ensures ∙ ap (λ (s : State). has_cut (slice_get s.nodes c.args.node.0)) c.view-2.ensures) ∙ c.if-has_cut.true));
}

pub examine_ready-requires : goal.examine_ready-requires
examine_ready-requires c = ready-at c.args.self.now c.args.node
    (examine_refusal-none c.args.self.now c.args.node (sym (c.examine_refusal.ensures ∙ ap (λ (s : State). examine_refusal s c.args.node) c.view.ensures) ∙ c.in_default.is))
    (sym (c.has_cut.ensures ∙ ap (λ (s : State). has_cut (slice_get s.nodes c.args.node.0)) c.view-2.ensures) ∙ c.if-has_cut.false)
