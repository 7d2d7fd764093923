-- What clauses say of decks.
use Rattle.std.specs.Prelude.{◌≡◌, ℕ, List, ◌++◌, length, map, Some, slice_get}
use Rattle.std.specs.List.{flat_map}
use mathlib.Core.List.{IsPrefix}
use Rattle.std.specs.declared.alloc.Global.{Global}
use Rattle.crossbeam_deque.specs.Handles.{worker_view, worker_deque, stealer_deque}
use Rattle.plan_base.specs.declared.ids.BranchId.{BranchId}
use Rattle.block_deques.specs.declared.block.Block.{Block}
use Rattle.block_deques.specs.declared.deck.Deck.{Deck}
use Rattle.block_deques.specs.declared.reach.Reach.{Reach}
use Rattle.block_deques.specs.Hands.{WasEmpty}
use Rattle.block_deques.specs.Reaches.{reach_view, reach_taken, taken_at}

-- the block with these fields
abbrev pub block_of : ℕ → ℕ → ℕ → BranchId → ℕ → ℕ → ℕ → Block
block_of deck index slot node version first count = record { deck = deck; index = index; slot = slot; node = node; version = version; first = first; count = count }

-- the number of a deck among those of its making
abbrev pub number_of : Deck → ℕ
number_of d = d.number

-- how many decks there are of its making
abbrev pub deck_count : Deck → ℕ
deck_count d = length d.reaches.items

-- the blocks that a deck has put on its own deque, in their order
abbrev pub put_by : Deck → List Block
put_by d = (worker_view d.worker).put

-- the blocks that a deck has taken from its own deque, in their order
abbrev pub popped_by : Deck → List Block
popped_by d = (worker_view d.worker).taken

-- the blocks that a deck has stolen from the deck of a number, in their order
abbrev pub stolen_by : Deck → ℕ → List Block
stolen_by d victim = taken_at d.reaches.items victim

-- all blocks that a deck has taken: those from its own deque, and then those from each deck in turn
abbrev pub taken_by : Deck → List Block
taken_by d = popped_by d ++ flat_map reach_taken d.reaches.items

-- which deque it is
abbrev pub DequeId : Type 0
DequeId = (ℕ × ℕ) × Global

-- which deck it is: its number, its own deque, and the deques of all decks of its making
pub record DeckId : Type 0 where
  pub number : ℕ
  pub own : DequeId
  pub all : List DequeId

-- which deck it is
abbrev pub deck_id : Deck → DeckId
deck_id d = record { number = d.number; own = worker_deque d.worker; all = map (λ (r : Reach). stealer_deque r.stealer) d.reaches.items }

-- it is the same deck, whatever it has put and taken
abbrev pub IsSameDeck : Deck → Deck → Type 0
IsSameDeck d e = deck_id e ≡ deck_id d

-- it is the same deck, and what it had put, popped and stolen from each deck begins what it has now
pub record GoesOn (d e : Deck) : Type 0 where
  pub same : IsSameDeck d e
  pub put : IsPrefix (put_by d) (put_by e)
  pub popped : IsPrefix (popped_by d) (popped_by e)
  pub stolen : (victim : ℕ) → IsPrefix (stolen_by d victim) (stolen_by e victim)

-- it has stolen nothing more
abbrev pub HasNotStolen : Deck → Deck → Type 0
HasNotStolen d e = (victim : ℕ) → stolen_by e victim ≡ stolen_by d victim

-- what it knows fits its own deque without a block: others may have taken what it did not pop. So this says only that what it popped is among what it put
abbrev pub FoundOwnEmpty : Deck → Type 0
FoundOwnEmpty d = WasEmpty (worker_view d.worker)

-- the same of another deck's deque, of which it knows only what it stole
abbrev pub FoundEmpty : Deck → ℕ → Type 0
FoundEmpty d victim = (r : Reach) × (slice_get d.reaches.items victim ≡ Some r) × WasEmpty (reach_view r)
