use Rattle.std.proofs.Common.{rules, ap, ◌∙◌, Some}
use Rattle.ticket_turns.proofs.Drawing.{draws}
use Rattle.ticket_turns.proofs.Looking.{looks, served_after, has_slot}
use Rattle.ticket_turns.proofs.turns.Turns.take_turn.Goals as goal

pub fetch_add-ticket-requires : goal.fetch_add-ticket-requires
fetch_add-ticket-requires g c = let r = c.requires.ready in (search rules, search rules, draws _ _ _ _ _ r.0.0 r.1 r.2 r.3)

pub load-requires : goal.load-requires
load-requires g c = (search rules, search rules, looks _ _ _ _ _ _ (ap (λ m. m.0.stage) (c.loop.invariant.2 ∙ c.fetch_add-ticket.ensures.2)))

pub exchange-requires : goal.exchange-requires
exchange-requires g c = (search rules, let h = has_slot _ _ _ _ (served_after _ _ _ _ _ c.load.ensures.2 (ap (λ m. m.0.stage) (c.loop.invariant.2 ∙ c.fetch_add-ticket.ensures.2)) (search rules)) in (Some h.0, h.1))
