use Rattle.std.proofs.Common.{rules}
use Rattle.ticket_turns.proofs.Raising.{raises_call}
use Rattle.ticket_turns.proofs.Serving.{serves_raised}
use Rattle.ticket_turns.proofs.turns.Turns.leave.Goals as goal

pub fetch_add-requires : goal.fetch_add-requires
fetch_add-requires g c = let i = c.requires.inside in (search rules, search rules, raises_call _ _ _ _ _ _ _ i.1 i.2 (_, c.requires.leads))

pub fetch_add-requires-2 : goal.fetch_add-requires-2
fetch_add-requires-2 g c = let i = c.requires.inside in (search rules, search rules, serves_raised _ _ _ _ _ _ _ _ _ _ i.1 i.3 c.requires.leads c.fetch_add.ensures.2 c.exchange.ensures.3)
