use Rattle.std.proofs.Common.{◌≡◌, ◌+◌, ◌≤◌, ◌++◌, length, map, reverse, vec_capacity, vec_len}
use Rattle.linear_hub.proofs.workers.put_together.Given as goal

abbrev pub invariant-loop-deck : goal.invariant-loop-deck
invariant-loop-deck g l = record {
  seats : l.initial.seats.items ≡ l.seats.items ++ reverse (map (λ w. w.seat) l.workers.items);
  decks : l.initial.decks.items ≡ l.decks.items ++ reverse (map (λ w. w.deck) l.workers.items);
  count : length l.seats.items ≡ length l.decks.items;
  seat_room : length l.workers.items + length l.seats.items ≤ vec_capacity l.seats;
  deck_room : length l.workers.items + length l.decks.items ≤ vec_capacity l.decks;
}

abbrev pub decreases-loop-deck : goal.decreases-loop-deck
decreases-loop-deck g l = vec_len l.decks
