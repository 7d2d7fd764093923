use Rattle.std.proofs.Common.{rules, ap}
use Rattle.ticket_turns.proofs.Splitting.{copies}
use Rattle.ticket_turns.proofs.Joining.{met_by_copy}
use Rattle.ticket_turns.proofs.turns.Turns.meet.Goals as goal

pub split_seat-copy-requires : goal.split_seat-copy-requires
split_seat-copy-requires g c = (search rules, search rules, copies _ _ _ _)

pub returns-clause-met : goal.returns-clause-met
returns-clause-met g c = met_by_copy _ _ _ _ _ (ap (λ x. x.0) c.split_seat-copy.ensures.4) c.take_in.ensures.taken
