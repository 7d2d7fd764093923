use Rattle.ticket_turns.proofs.Calling.{is_adding}
use Rattle.ticket_turns.proofs.laws.calls_are_added.Goals as goal

pub returns : goal.returns
returns g c = is_adding g.M.Meaning.leads
