use Rattle.std.proofs.Common.{ℕ, ◌<◌, ◌≤◌}
use Rattle.std.specs.Option.{unwrap_or}
use Rattle.least_path.specs.Trees.{length_at}
use Rattle.least_path.proofs.tree.longest.Given as goal

abbrev pub invariant-loop-known : goal.invariant-loop-known
invariant-loop-known l = (v : ℕ) → v < l.known-index → unwrap_or (length_at l.labels v) 0 ≤ l.most
