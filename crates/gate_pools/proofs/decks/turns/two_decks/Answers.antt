use Rattle.gate_pools.proofs.Makings.{two_popped}
use Rattle.gate_pools.proofs.decks.turns.two_decks.Goals as goal

pub returns : goal.returns
returns c =
    let all = c.in_ok-all.ensures in
    two_popped c.in_ok-all.all.items c.pop.new.self.items c.pop-2.new.self.items c.in-Some-pop.zero c.in-Some.one c.in-Some.ensures.items c.in-Some-pop.ensures.items all.length_is all.making
