use Rattle.std.proofs.Common.{length}
use Rattle.search_view.specs.Views.{AreFreePlaces}
use Rattle.pool_core.proofs.pool.making.free_places.Given as goal

abbrev pub invariant-loop-slot : goal.invariant-loop-slot
invariant-loop-slot l = AreFreePlaces l.slot (length l.inst.demands) (length l.prices) l.slots.items
