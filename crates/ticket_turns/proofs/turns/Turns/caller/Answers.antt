use Rattle.std.proofs.Common.{rules}
use Rattle.ticket_turns.proofs.Splitting.{new_callers}
use Rattle.ticket_turns.proofs.Making.{has_part, has_draws, made_one, new_one}
use Rattle.ticket_turns.proofs.turns.Turns.caller.Goals as goal

pub split_seat-requires : goal.split_seat-requires
split_seat-requires g c =
    let m = c.requires.maker in
    let few = c.requires.few in
    let most = c.args.self.now.few in
    (search rules, search rules, new_callers _ _ _ _ _ m.role m.idle.0 (has_part _ _ _ m few most) (has_draws _ _ _ m few most))

pub returns-clause-maker : goal.returns-clause-maker
returns-clause-maker g c = made_one _ _ _ c.requires.maker c.requires.few c.args.self.now.few _ c.split_seat.ensures.2

pub returns-clause-caller : goal.returns-clause-caller
returns-clause-caller g c = new_one _ _ _ c.requires.maker c.requires.few c.args.self.now.few c.split_seat.result c.split_seat.ensures.4
