use Rattle.std.proofs.Common.{ℕ, ◌<◌}
use Rattle.plan_base.specs.Arcs.{demand_at}
use Rattle.plan_base.specs.Paths.{IsSimplePath}
use Rattle.plan_base.specs.Designs.{path_at}
use Rattle.completions.specs.Completions.{with_paths}
use Rattle.root_cuts.proofs.designs.are_paths.Given as goal

-- the paths so far are simple
abbrev pub invariant-loop-place : goal.invariant-loop-place
invariant-loop-place l = (k : ℕ) → k < l.place → IsSimplePath l.inst (demand_at l.inst k) (path_at (with_paths l.paths) k)
