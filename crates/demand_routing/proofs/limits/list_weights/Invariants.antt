use Rattle.std.proofs.Common.{◌≡◌, ◌≤◌, take}
use Rattle.std.specs.List.{All}
use Rattle.std.specs.Option.{unwrap_or}
use Rattle.least_path.specs.declared.limits.TheConstants.{MAX_WEIGHT}
use Rattle.demand_routing.proofs.limits.list_weights.Given as goal

abbrev pub invariant-loop-number : goal.invariant-loop-number
invariant-loop-number g l = record {
  listed : l.weights.items ≡ take l.number (g.W.Weigher.weights l.weigher);
  small : All (λ w. unwrap_or w 0 ≤ MAX_WEIGHT) l.weights.items;
}
