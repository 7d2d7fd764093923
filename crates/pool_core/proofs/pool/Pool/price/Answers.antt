use Rattle.std.proofs.Common.{refl, sym, subst, ◌∙◌, ◌<◌, length}
use Rattle.search_machine.specs.declared.answers.Offer.{Offer}
use Rattle.search_machine.proofs.Leads.{LeadsTo-stays}
use Rattle.pool_core.proofs.Steps.{gap-some, gap-within, fits-told, none-offer_fault, priced-on, offered-leads}
use Rattle.std.specs.Prelude.{IsSome}
use Rattle.search_machine.specs.State.{State, round_of}
use Rattle.pool_core.proofs.pool.Pool.price.Goals as goal

pub found-requires-clause-round : goal.found-requires-clause-round
found-requires-clause-round c = subst (λ (s : State). IsSome (round_of s c.args.node)) (sym c.view.ensures) (gap-some c.args.self.now c.args.node c.args.version c.args.demand c.requires.gap)

pub found-requires-clause-demand : goal.found-requires-clause-demand
found-requires-clause-demand c =
    subst (λ (s : State). c.args.demand.0 < length s.problem.demands) (sym c.view.ensures) (gap-within c.args.self.now c.args.node c.args.version c.args.demand c.requires.gap c.requires.reachable)

pub returns-in_err-known-clause-leads : goal.returns-in_err-known-clause-leads
returns-in_err-known-clause-leads c = LeadsTo-stays c.args.self.now c.args.self.now refl

pub returns-in_err-found-clause-leads : goal.returns-in_err-found-clause-leads
returns-in_err-found-clause-leads c = LeadsTo-stays c.args.self.now c.args.self.now refl

pub returns-in_err-keep-clause-leads : goal.returns-in_err-keep-clause-leads
returns-in_err-keep-clause-leads c = LeadsTo-stays c.args.self.now c.args.self.now refl

pub take-answer-requires : goal.take-answer-requires
take-answer-requires c =
    let fits = fits-told _ _ c.args.node c.args.demand.0 _ _ c.view.ensures (c.in_ok-found.ensures ∙ c.deref.ensures) c.in_ok-known.ensures in
    none-offer_fault c.args.self.now (record { node = c.args.node; version = c.args.version; demand = c.args.demand; found = c.in_ok-found.found }) c.requires.reachable c.requires.gap fits

pub returns : goal.returns
returns c =
    let s = c.args.self.now in
    let fits = fits-told _ _ c.args.node c.args.demand.0 _ _ c.view.ensures (c.in_ok-found.ensures ∙ c.deref.ensures) c.in_ok-known.ensures in
    let offer : Offer = record { node = c.args.node; version = c.args.version; demand = c.args.demand; found = c.in_ok-found.found } in
    record {
      leads = offered-leads s c.take-answer.new.self offer c.take-answer.result c.take-answer.ensures.event;
      closer = priced-on s c.take-answer.new.self c.args.node c.args.version c.args.demand c.in_ok-found.found c.take-answer.result c.requires.reachable c.requires.gap fits c.take-answer.ensures.event;
    }
