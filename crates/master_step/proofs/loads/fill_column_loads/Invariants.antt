use Rattle.std.proofs.Common.{ℕ, ◌≡◌, ◌<◌, slice_index}
use Rattle.plan_base.specs.declared.limits.TheConstants.{MAX_PLACES}
use Rattle.plan_base.specs.Sums.{sum_below}
use Rattle.master_step.specs.Choosing.{allowed_of}
use Rattle.master_step.proofs.PlaceLoads.{put}
use Rattle.master_step.proofs.loads.fill_column_loads.Given as goal

abbrev pub invariant-loop-place : goal.invariant-loop-place
invariant-loop-place l = (q : ℕ) → q < MAX_PLACES → slice_index l.loads q ≡ sum_below (put l.inst (allowed_of l.source) l.prices q) l.place
