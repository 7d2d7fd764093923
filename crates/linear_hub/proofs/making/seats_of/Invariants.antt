use Rattle.std.proofs.Common.{◌≡◌, ◌+◌, length, All}
use Rattle.ticket_turns.specs.Passes.{view_of, IsMaker}
use Rattle.linear_hub.specs.Seats.{AreNew}
use Rattle.linear_hub.proofs.making.seats_of.Given as goal

abbrev pub invariant-loop-number : goal.invariant-loop-number
invariant-loop-number g l =
    (l.maker.table_id ≡ l.turns.table.shared.table_id) × IsMaker l.turns.callers l.number l.maker × (length l.readers.items + l.number ≡ l.seats) × (length l.list.items ≡ l.number)
    × All (λ s. s.pass.table_id ≡ l.turns.table.shared.table_id) l.list.items
    × AreNew (λ s. s.number) (λ s. s.calls) (λ s. view_of s.pass) l.list.items
