use Rattle.std.proofs.Common.{ℕ, ◌≡◌, ◌<◌, ◌+◌, slice_index, take}
use Rattle.plan_base.specs.declared.limits.TheConstants.{MAX_PLACES}
use Rattle.plan_base.specs.Places.{place_of}
use Rattle.plan_base.proofs.AddedLoads.{added}
use Rattle.plan_base.proofs.loads.add_load.Given as goal

abbrev pub invariant-loop-arc : goal.invariant-loop-arc
invariant-loop-arc l = (e : ℕ) → e < MAX_PLACES → slice_index l.loads e ≡ slice_index l.initial.loads e + added (place_of l.inst) (take l.arc-index l.arcs) l.load e
