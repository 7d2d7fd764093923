use Rattle.std.proofs.Common.{ℕ, ◌<◌, length}
use Rattle.plan_base.specs.Arcs.{demand_at}
use Rattle.plan_base.specs.Designs.{KeepsLimit}
use Rattle.verifier_paths.specs.OnlyPaths.{path_in}
use Rattle.cert_verifier.proofs.leaves.are_within.Given as goal

-- the paths of the demands before this one keep their limits
abbrev pub invariant-loop-place : goal.invariant-loop-place
invariant-loop-place l = (k : ℕ) → k < l.place → KeepsLimit (demand_at l.inst k).hops (length (path_in l.paths k))
