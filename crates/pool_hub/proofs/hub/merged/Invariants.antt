use Rattle.std.specs.Prelude.{◌≡◌, ◌+◌, length}
use Rattle.std.specs.List.{sum_by}
use Rattle.pool_hub.proofs.hub.merged.Given as goal

abbrev pub invariant-loop-seat : goal.invariant-loop-seat
invariant-loop-seat g l = record {
  parts : l.all.parts + length l.seats.items ≡ length l.fn.seats.items;
  amount : l.all.amount + sum_by (λ s. s.share.amount) l.seats.items ≡ sum_by (λ s. s.share.amount) l.fn.seats.items;
}

abbrev pub decreases-loop-seat : goal.decreases-loop-seat
decreases-loop-seat g l = goal.left-loop-seat g l
