use Rattle.std.proofs.Common.{ℕ, ◌≡◌, ◌<◌, ◌≤◌, length}
use Rattle.arc_restrict.specs.Rows.{forbids}
use Rattle.plan_base.specs.Designs.{path_at}
use Rattle.completions.specs.Completions.{with_paths}
use Rattle.leaf_tasks.specs.Limits.{IsFitted}
use Rattle.leaf_tasks.proofs.limits.paths_within.Given as goal

-- the paths of the demands before this one are fitted, and the others are as before
abbrev pub invariant-loop-number : goal.invariant-loop-number
invariant-loop-number l = record {
  count : length l.fitted.items ≡ length l.initial.fitted.items;
  before : (k : ℕ) → k < l.number → IsFitted l.inst (forbids l.restriction) l.prices k (path_at (with_paths l.initial.fitted.items) k) (path_at (with_paths l.fitted.items) k);
  behind : (k : ℕ) → l.number ≤ k → path_at (with_paths l.fitted.items) k ≡ path_at (with_paths l.initial.fitted.items) k;
}
