use Rattle.std.proofs.Common.{◌≡◌, ◌+◌, length, All}
use mathlib.Core.List.{IsPrefix}
use Rattle.ticket_turns.specs.Passes.{view_of, IsIdle}
use Rattle.linear_hub.specs.Seats.{Remains}
use Rattle.linear_hub.proofs.hub.LinearHub.end_with.Given as goal

abbrev pub invariant-loop-one : goal.invariant-loop-one
invariant-loop-one g l =
    (l.root.table_id ≡ l.fn.self.turns.table.shared.table_id) × IsIdle l.root × (l.root.me.0.parts + length l.seats.items ≡ l.fn.self.turns.callers)
    × IsPrefix l.fn.root.me.0.seen l.root.me.0.seen
    × All (λ s. s.pass.table_id ≡ l.fn.self.turns.table.shared.table_id) l.seats.items
    × Remains (λ s. (view_of s.pass).seen) l.fn.seats.items l.seats.items l.root.me.0.seen

abbrev pub decreases-loop-one : goal.decreases-loop-one
decreases-loop-one g l = goal.left-loop-one g l
