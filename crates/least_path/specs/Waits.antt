-- The nodes that wait to be settled. No public clause cites this module.
use Rattle.std.specs.Prelude.{false, ℕ, ◌≡◌, ◌≢◌, List, Some}
use Rattle.std.specs.declared.cmp.Ordering.{Ordering}
use Rattle.std.specs.Ordering.{nat_cmp, ordering_then}
use Rattle.std.specs.List.{Contains}
use Rattle.std.specs.declared.cmp.Reverse.{Reverse}
use Rattle.least_path.specs.declared.label.Label.{Label}
use Rattle.least_path.specs.declared.queue.Waiting.{Waiting}
use Rattle.least_path.specs.Labels.{Labels, label_at}

-- what the heap holds of a node that waits
abbrev pub Waiter : Type 0
Waiter = Reverse Waiting

-- the node of number v waits with this length
abbrev pub waits : ℕ → ℕ → Waiter
waits v length = record { 0 = record { length = length; node = record { 0 = v } } }

-- the shorter length first, and of equal ones the lower number
abbrev pub nearer_first : Waiter → Waiter → Ordering
nearer_first x y = ordering_then (nat_cmp y.0.length x.0.length) (nat_cmp y.0.node.0 x.0.node.0)

-- each node that has a label and is not settled waits with its length
abbrev pub AllWait : Labels → List Waiter → Type 0
AllWait ls queue = (v : ℕ) (l : Label) → label_at ls v ≡ Some l → l.settled ≡ false → Contains queue (waits v l.length)

-- the same of each node but this one
abbrev pub OthersWait : Labels → List Waiter → ℕ → Type 0
OthersWait ls queue here = (v : ℕ) (l : Label) → v ≢ here → label_at ls v ≡ Some l → l.settled ≡ false → Contains queue (waits v l.length)

-- the label of the node that waited, which is not settled and has the length that it waited with
pub record IsFresh (ls : Labels) (first : Waiting) (label : Label) : Type 0 where
  pub is : label_at ls first.node.0 ≡ Some label
  pub unsettled : label.settled ≡ false
  pub length_is : label.length ≡ first.length

-- the node that waited has no such label
abbrev pub IsStale : Labels → Waiting → Type 0
IsStale ls first = (l : Label) → label_at ls first.node.0 ≡ Some l → l.settled ≡ false → l.length ≢ first.length
