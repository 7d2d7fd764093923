use Rattle.std.proofs.Common.{◌≡◌, ◌≤◌, length}
use Rattle.std.specs.List.{All}
use Rattle.std.specs.Option.{unwrap_or}
use Rattle.least_path.specs.declared.limits.TheConstants.{MAX_WEIGHT}
use Rattle.incumbent.proofs.tolls.list_weights.Given as goal

abbrev pub invariant-loop-number : goal.invariant-loop-number
invariant-loop-number l = record {
  count : length l.weights.items ≡ l.number;
  small : All (λ w. unwrap_or w 0 ≤ MAX_WEIGHT) l.weights.items;
}
