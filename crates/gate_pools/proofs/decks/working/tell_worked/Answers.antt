use Rattle.gate_pools.proofs.Makings.{two_stay}
use Rattle.gate_pools.proofs.decks.working.tell_worked.Goals as goal

pub gather_two-requires : goal.gather_two-requires
gather_two-requires g c = two_stay c.in-Ok-Some.zero c.in-Ok-Some.one c.tell_work.new.zero c.tell_work.new.one c.tell_work.ensures.zero c.tell_work.ensures.one (rw c.in-Ok-Some.field-0-is at c.in-Ok-Some.ensures)
