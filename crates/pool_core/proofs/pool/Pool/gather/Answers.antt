use Rattle.std.proofs.Common.{refl, sym, ◌∙◌, ap, subst}
use Rattle.pool_core.specs.Valuing.{IsCompleteAt}
use Rattle.pool_core.proofs.Gatherings.{gather_fault-none, gather_fault-refusal, wanting-step, added-some, added-front, added-gathers}
use Rattle.search_machine.specs.State.{State, round_of}
use Rattle.search_machine.specs.Gathering.{gather_fault, IsBriefOf}
use Rattle.std.specs.Prelude.{IsSome}
use Rattle.search_view.specs.Valuing.{ForRound}
use Rattle.pool_core.proofs.pool.Pool.gather.Goals as goal

pub returns-in-Some : goal.returns-in-Some
returns-in-Some c = record { event = gather_fault-refusal c.args.self.now c.args.node c.args.version c.in-Some.refusal (sym (c.gather_refusal.ensures ∙ ap (λ (s : State). gather_fault s c.args.node c.args.version) c.view.ensures) ∙ c.in-Some.is) }

pub add_columns-requires : goal.add_columns-requires
add_columns-requires c = gather_fault-none c.args.self.now c.args.node c.args.version (sym (c.gather_refusal.ensures ∙ ap (λ (s : State). gather_fault s c.args.node c.args.version) c.view.ensures) ∙ c.in_default.is)

pub returns-in_err-add_columns : goal.returns-in_err-add_columns
returns-in_err-add_columns c = record { event = wanting-step c.args.self.now c.add_columns.new.self c.args.node c.args.version c.from_residual.result c.from_residual.ensures.0 (c.in_err-add_columns.ensures.front refl) }

pub brief-requires : goal.brief-requires
brief-requires c =
    let h : IsCompleteAt c.args.self.now c.args.node c.args.version = gather_fault-none c.args.self.now c.args.node c.args.version (sym (c.gather_refusal.ensures ∙ ap (λ (s : State). gather_fault s c.args.node c.args.version) c.view.ensures) ∙ c.in_default.is) in
    subst (λ (s : State). IsSome (round_of s c.args.node)) (sym c.view-2.ensures) (added-some c.args.self.now c.add_columns.new.self c.args.node c.args.version h c.in_ok-add_columns.ensures.added)

pub returns-in_err-brief : goal.returns-in_err-brief
returns-in_err-brief c =
    let h : IsCompleteAt c.args.self.now c.args.node c.args.version = gather_fault-none c.args.self.now c.args.node c.args.version (sym (c.gather_refusal.ensures ∙ ap (λ (s : State). gather_fault s c.args.node c.args.version) c.view.ensures) ∙ c.in_default.is) in
    record {
      event = wanting-step c.args.self.now c.add_columns.new.self c.args.node c.args.version c.from_residual-in_err-brief.result c.from_residual-in_err-brief.ensures.0
          (added-front c.args.self.now c.add_columns.new.self c.args.node c.args.version h c.in_ok-add_columns.ensures.added);
    }

pub returns : goal.returns
returns c =
    let h : IsCompleteAt c.args.self.now c.args.node c.args.version = gather_fault-none c.args.self.now c.args.node c.args.version (sym (c.gather_refusal.ensures ∙ ap (λ (s : State). gather_fault s c.args.node c.args.version) c.view.ensures) ∙ c.in_default.is) in
    record {
      event = added-gathers c.args.self.now c.add_columns.new.self c.args.node c.args.version h c.in_ok-add_columns.ensures.added c.in_ok-brief.brief
          (subst (λ (s : State). ForRound s c.args.node (λ x round. IsBriefOf s c.args.node x round c.in_ok-brief.brief)) c.view-2.ensures c.in_ok-brief.ensures);
    }
