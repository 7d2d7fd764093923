use Rattle.gate_pools.proofs.Makings.{two_stay}
use Rattle.gate_pools.proofs.decks.turns.tell_turns.Goals as goal

pub gather_two-requires : goal.gather_two-requires
gather_two-requires g c = two_stay c.in-Ok-Some.zero c.in-Ok-Some.one c.tell_calls.new.zero c.tell_calls.new.one c.tell_calls.ensures.zero c.tell_calls.ensures.one (rw c.in-Ok-Some.field-0-is at c.in-Ok-Some.ensures)
