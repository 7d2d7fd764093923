use Rattle.block_deques.specs.Reaches.{IsSameReach, reach_view}
use Rattle.std.proofs.Common.{◌≡◌}
use Rattle.block_deques.proofs.reach.Reach.steal.Given as goal

abbrev pub invariant-loop : goal.invariant-loop
invariant-loop g l = IsSameReach l.initial.self l.self × (reach_view l.self ≡ reach_view l.initial.self)
