use Rattle.std.proofs.Common.{◌≡◌}
use Rattle.gate_pools.proofs.hubs.linear.told_by_two.Given as goal

abbrev pub invariant-loop-row : goal.invariant-loop-row
invariant-loop-row g l = l.pair.hub.now ≡ l.hub
