use Rattle.std.proofs.Common.{sym, ◌∙◌, ap}
use Rattle.pool_core.proofs.OfferPool.{offer_fault-refusal}
use Rattle.search_machine.specs.State.{State}
use Rattle.search_machine.specs.Offering.{offer_fault}
use Rattle.pool_core.proofs.pool.Pool.offer.Goals as goal

pub returns-in-Some : goal.returns-in-Some
returns-in-Some c = record { event = offer_fault-refusal c.args.self.now c.args.offer c.in-Some.refusal (sym (c.offer_refusal.ensures ∙ ap (λ (s : State). offer_fault s c.args.offer) c.view.ensures) ∙ c.in-Some.is) }
