use Rattle.std.proofs.Common.{sym, subst, ◌∙◌, rules, ap}
use Rattle.std.proofs.lemmas.Int.{to_z-of_z}
use mir.Syntax.{w128}
use mir.Val.{SFits}
use Rattle.search_machine.specs.State.{State}
use Rattle.search_machine.specs.Settling.{Settles, settle_fault}
use Rattle.pool_core.specs.Valuing.{IsToSettle}
use Rattle.pool_core.proofs.Answering.{settle_fault-none, settle_fault-refusal}
use Rattle.pool_core.proofs.Valuing.{if_some, if_none}
use Rattle.pool_core.proofs.Settlings.{to-gathered, to-settle, improvable}
use Rattle.pool_core.proofs.pool.Pool.settle.Goals as goal

pub returns-in-Some : goal.returns-in-Some
returns-in-Some c = record { event = settle_fault-refusal c.args.self.now c.args.node c.args.version c.in-Some.refusal (sym (c.settle_refusal.ensures ∙ ap (λ (s : State). settle_fault s c.args.node c.args.version) c.view.ensures) ∙ c.in-Some.is) }

pub improvement-requires : goal.improvement-requires
improvement-requires c =
    to-gathered c.args.self.now c.args.node c.args.version (settle_fault-none c.args.self.now c.args.node c.args.version (sym (c.settle_refusal.ensures ∙ ap (λ (s : State). settle_fault s c.args.node c.args.version) c.view.ensures) ∙ c.in_default.is))

pub returns-in-Some-improvement : goal.returns-in-Some-improvement
returns-in-Some-improvement c =
    let g = settle_fault-none c.args.self.now c.args.node c.args.version (sym (c.settle_refusal.ensures ∙ ap (λ (s : State). settle_fault s c.args.node c.args.version) c.view.ensures) ∙ c.in_default.is) in
    let old_fits : SFits w128 c.in-Some-improvement.old = search rules in
    let new_fits : SFits w128 c.in-Some-improvement.new = search rules in
    record {
      event = rw (to_z-of_z w128 c.in-Some-improvement.old old_fits, to_z-of_z w128 c.in-Some-improvement.new new_fits)
          (improvable c.args.self.now c.improvement.new.self c.args.node c.args.version c.in-Some-improvement.old c.in-Some-improvement.new g (if_some c.improvement.result _ _ c.in-Some-improvement.is c.improvement.ensures.some) c.improvement.ensures.unchanged);
    }

pub mark_settled-requires : goal.mark_settled-requires
mark_settled-requires c =
    let g = settle_fault-none c.args.self.now c.args.node c.args.version (sym (c.settle_refusal.ensures ∙ ap (λ (s : State). settle_fault s c.args.node c.args.version) c.view.ensures) ∙ c.in_default.is) in
    subst (λ (x : State). IsToSettle x c.args.node c.args.version) (sym c.improvement.ensures.unchanged)
    (to-settle c.args.self.now c.args.node c.args.version g (if_none c.improvement.result _ c.in_default-improvement.is c.improvement.ensures.none))

pub returns : goal.returns
returns c = record { event = subst (λ (x : State). Settles x c.args.node c.args.version c.mark_settled.new.self) c.improvement.ensures.unchanged c.mark_settled.ensures }
