use Rattle.std.proofs.Common.{◌≡◌, ◌+◌, ◌≤◌, ◌++◌, length, map, reverse, vec_capacity, vec_len}
use Rattle.linear_hub.proofs.workers.take_apart.Given as goal

abbrev pub invariant-loop-worker : goal.invariant-loop-worker
invariant-loop-worker g l = record {
  seats : map (λ w. w.seat) l.initial.workers.items ≡ map (λ w. w.seat) l.workers.items ++ reverse l.seats.items;
  decks : map (λ w. w.deck) l.initial.workers.items ≡ map (λ w. w.deck) l.workers.items ++ reverse l.decks.items;
  seat_room : vec_len l.seats + length l.workers.items ≤ vec_capacity l.seats;
  deck_room : vec_len l.decks + length l.workers.items ≤ vec_capacity l.decks;
}

abbrev pub decreases-loop-worker : goal.decreases-loop-worker
decreases-loop-worker g l = vec_len l.workers
