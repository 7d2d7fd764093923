use Rattle.std.proofs.Common.{◌≡◌}
use Rattle.gate_pools.proofs.Seats.{last_two}
use Rattle.gate_pools.proofs.hubs.linear.two_seats.Goals as goal

pub returns : goal.returns
returns g c = last_two (λ s. s.pass.table_id ≡ c.args.hub.now.turns.table.shared.table_id) _ _ _ _ _ c.in-Some.ensures.items c.in-Some-pop.ensures.items c.requires
