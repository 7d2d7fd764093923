use Rattle.std.proofs.Common.{◌≡◌, take}
use Rattle.demand_routing.proofs.copies.roomy_copies.Given as goal

abbrev pub invariant-loop-path : goal.invariant-loop-path
invariant-loop-path l = l.copies.items ≡ take l.path-index l.paths
