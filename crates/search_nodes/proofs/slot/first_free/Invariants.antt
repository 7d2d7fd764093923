use Rattle.std.proofs.Common.{◌≡◌, ℕ, ◌<◌, Some, slice_get}
use Rattle.plan_base.specs.declared.ids.BranchId.{BranchId}
use Rattle.search_nodes.specs.declared.slot.Slot.TheVariants.{Of}
use Rattle.search_nodes.proofs.slot.first_free.Given as goal

abbrev pub invariant-loop-slot : goal.invariant-loop-slot
invariant-loop-slot l = (k : ℕ) → k < l.slot → (id : BranchId) × (slice_get l.places k ≡ Some (Of id))
