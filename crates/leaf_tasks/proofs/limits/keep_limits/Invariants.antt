use Rattle.std.proofs.Common.{ℕ, ◌<◌, length}
use Rattle.plan_base.specs.Arcs.{demand_at}
use Rattle.plan_base.specs.Designs.{path_at, KeepsLimit}
use Rattle.completions.specs.Completions.{with_paths}
use Rattle.leaf_tasks.proofs.limits.keep_limits.Given as goal

-- the paths of the demands before this one keep their limits
abbrev pub invariant-loop-number : goal.invariant-loop-number
invariant-loop-number l = (k : ℕ) → k < l.number → KeepsLimit (demand_at l.inst k).hops (length (path_at (with_paths l.paths) k))
