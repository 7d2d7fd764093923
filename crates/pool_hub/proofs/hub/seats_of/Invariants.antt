use Rattle.std.specs.Prelude.{◌≡◌, ◌+◌, length}
use Rattle.std.specs.List.{sum_by}
use Rattle.pool_hub.proofs.hub.seats_of.Given as goal

abbrev pub invariant-loop-number : goal.invariant-loop-number
invariant-loop-number g l = record {
  parts : l.all.parts + l.number ≡ l.workers;
  amount : l.all.amount ≡ 0;
  readers : length l.readers.items + l.number ≡ l.workers;
  count : length l.seats.items ≡ l.number;
  booked : sum_by (λ s. s.share.amount) l.seats.items ≡ 0;
}
