use Rattle.std.proofs.Common.{rules, ap, ◌∙◌}
use Rattle.ticket_turns.proofs.Joining.{joins, taken_in}
use Rattle.ticket_turns.proofs.Looking.{hears}
use Rattle.ticket_turns.proofs.turns.Turns.take_in.Goals as goal

pub join_seat-requires : goal.join_seat-requires
join_seat-requires g c = (search rules, search rules, search rules, search rules, joins _ _ _ _ _ _ c.requires.root.0 c.requires.other.0)

pub load-requires : goal.load-requires
load-requires g c = (search rules, search rules, hears _ _ _ _ _ (ap (λ x. x.0.stage) c.join_seat.ensures.2 ∙ c.requires.root.0))

pub returns-clause-taken : goal.returns-clause-taken
returns-clause-taken g c = taken_in _ _ _ _ _ c.join_seat.ensures.2 c.load.ensures.2
