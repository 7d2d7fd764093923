use Rattle.std.proofs.Common.{sym, subst, ◌∙◌, ap}
use Rattle.search_machine.specs.Machine.{IsReachable}
use Rattle.pool_core.proofs.Closings.{close_fault-none, close_fault-refusal, has_reason, closed-reachable, closed-step}
use Rattle.search_machine.specs.State.{State}
use Rattle.search_machine.specs.Closing.{close_fault}
use Rattle.pool_core.proofs.pool.Pool.close_by_bound.Goals as goal

pub returns-in-Some : goal.returns-in-Some
returns-in-Some c = record { event = close_fault-refusal c.args.self.now c.args.node c.in-Some.refusal (sym (c.close_refusal.ensures ∙ ap (λ (s : State). close_fault s c.args.node) c.view.ensures) ∙ c.in-Some.is) }

pub close-requires-clause-leaf : goal.close-requires-clause-leaf
close-requires-clause-leaf c = (close_fault-none c.args.self.now c.args.node (sym (c.close_refusal.ensures ∙ ap (λ (s : State). close_fault s c.args.node) c.view.ensures) ∙ c.in_default.is)).is_open

pub close-requires-clause-not_spent : goal.close-requires-clause-not_spent
close-requires-clause-not_spent c = (close_fault-none c.args.self.now c.args.node (sym (c.close_refusal.ensures ∙ ap (λ (s : State). close_fault s c.args.node) c.view.ensures) ∙ c.in_default.is)).not_spent

pub close-requires-clause-reason : goal.close-requires-clause-reason
close-requires-clause-reason c = has_reason c.args.self.now c.args.node (close_fault-none c.args.self.now c.args.node (sym (c.close_refusal.ensures ∙ ap (λ (s : State). close_fault s c.args.node) c.view.ensures) ∙ c.in_default.is))

pub close-requires-clause-event : goal.close-requires-clause-event
close-requires-clause-event c =
    closed-reachable c.args.self.now c.args.node (subst IsReachable c.self.view_is c.self.invariant.kept.pool.reachable)
    (close_fault-none c.args.self.now c.args.node (sym (c.close_refusal.ensures ∙ ap (λ (s : State). close_fault s c.args.node) c.view.ensures) ∙ c.in_default.is))

pub returns : goal.returns
returns c = record { event = closed-step c.args.self.now c.args.node (close_fault-none c.args.self.now c.args.node (sym (c.close_refusal.ensures ∙ ap (λ (s : State). close_fault s c.args.node) c.view.ensures) ∙ c.in_default.is)) c.close.new.self c.close.ensures }
