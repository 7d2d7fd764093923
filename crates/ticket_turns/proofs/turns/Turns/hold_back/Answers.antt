use Rattle.std.proofs.Common.{rules, refl}
use Rattle.ticket_turns.proofs.Looking.{glances}
use Rattle.ticket_turns.proofs.turns.Turns.hold_back.Goals as goal

pub load-drawn-requires : goal.load-drawn-requires
load-drawn-requires g c = (search rules, search rules, glances _ _ _ _ _ 0 (λ a b l. refl))

pub load-requires : goal.load-requires
load-requires g c = (search rules, search rules, glances _ _ _ _ _ 1 (λ a b l. refl))
