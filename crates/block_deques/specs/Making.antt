-- How decks are made. No public clause cites this module.
use Rattle.std.specs.Prelude.{◌≡◌, ℕ, ◌<◌, true, List, [], Some, slice_get, length, Vec}
use Rattle.std.specs.declared.alloc.Global.{Global}
use Rattle.crossbeam_deque.specs.declared.handles.Worker.{Worker}
use Rattle.crossbeam_deque.specs.Handles.{worker_flavor, worker_view, worker_deque, stealer_deque}
use Rattle.block_deques.specs.declared.block.Block.{Block}
use Rattle.block_deques.specs.declared.block.Hand.{Hand}
use Rattle.block_deques.specs.declared.plays.Law.{Law}
use Rattle.block_deques.specs.declared.reach.Reach.{Reach}
use Rattle.block_deques.specs.declared.deck.Deck.{Deck}
use Rattle.block_deques.specs.Hands.{hand, thief, owner_after}
use Rattle.block_deques.specs.Reaches.{reach_view}

-- the worker of a deque
abbrev pub OwnerOf : Type 0
OwnerOf = Worker Block Global Hand Law

-- nothing was put, and the worker has this many parts
abbrev pub IsFresh : ℕ → OwnerOf → Type 0
IsFresh parts w = (worker_flavor w ≡ 0) × (worker_view w ≡ hand parts true [] [] [])

-- each is so
abbrev pub AreFresh : ℕ → List OwnerOf → Type 0
AreFresh parts ws = (k : ℕ) (w : OwnerOf) → slice_get ws k ≡ Some w → IsFresh parts w

-- the worker has parts to give away
abbrev pub IsRich : OwnerOf → Type 0
IsRich w = (worker_flavor w ≡ 0) × (1 < (worker_view w).parts)

-- each has
abbrev pub AreRich : List OwnerOf → Type 0
AreRich ws = (k : ℕ) (w : OwnerOf) → slice_get ws k ≡ Some w → IsRich w

-- the worker of the same deque, which has given one part away
abbrev pub HasGiven : OwnerOf → OwnerOf → Type 0
HasGiven w v = (worker_deque v ≡ worker_deque w) × (worker_flavor v ≡ worker_flavor w) × (worker_view v ≡ owner_after (worker_view w))

-- each has
abbrev pub HaveGiven : List OwnerOf → List OwnerOf → Type 0
HaveGiven ws vs = (k : ℕ) (w v : OwnerOf) → slice_get ws k ≡ Some w → slice_get vs k ≡ Some v → HasGiven w v

-- a new pass on each deque, in their order
pub record IsRow (ws : List OwnerOf) (rs : List Reach) : Type 0 where
  pub count : length rs ≡ length ws
  pub deques : (k : ℕ) (w : OwnerOf) (r : Reach) → slice_get ws k ≡ Some w → slice_get rs k ≡ Some r → stealer_deque r.stealer ≡ worker_deque w
  pub new : (k : ℕ) (r : Reach) → slice_get rs k ≡ Some r → reach_view r ≡ thief

-- each list is a row
abbrev pub AreRows : List OwnerOf → List (Vec Reach Global) → Type 0
AreRows ws rows = (k : ℕ) (row : Vec Reach Global) → slice_get rows k ≡ Some row → IsRow ws row.items

-- the deck at each place has its place as its number, the worker of that place, and a row
pub record IsDeckOf (ws : List OwnerOf) (k : ℕ) (d : Deck) : Type 0 where
  pub number : d.number ≡ k
  pub worker : slice_get ws k ≡ Some d.worker
  pub row : IsRow ws d.reaches.items
  pub new : (worker_view d.worker).put ≡ []
  pub none : (worker_view d.worker).taken ≡ []

-- each deck is so
abbrev pub AreDecksOf : List OwnerOf → List Deck → Type 0
AreDecksOf ws ds = (k : ℕ) (d : Deck) → slice_get ds k ≡ Some d → IsDeckOf ws k d
