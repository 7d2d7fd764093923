use Rattle.std.proofs.Common.{ℕ, ◌≡◌, ◌+◌, ◌-◌, length}
use Rattle.leaf_tasks.specs.Entries.{entry_at}
use Rattle.leaf_tasks.proofs.entries.reach.Given as goal

abbrev pub invariant-loop-entries : goal.invariant-loop-entries
invariant-loop-entries g l = (k : ℕ) → entry_at l.entries.items k ≡ entry_at l.initial.entries.items k

abbrev pub decreases-loop-entries : goal.decreases-loop-entries
decreases-loop-entries g l = l.number + 1 - length l.entries.items
