-- How decks are gathered. No public clause cites this module.
use Rattle.std.specs.Prelude.{◌≡◌, ℕ, ◌+◌, ◌<◌, true, List, [], ◌∷◌, Some, slice_get, length, Vec}
use Rattle.std.specs.declared.alloc.Global.{Global}
use Rattle.crossbeam_deque.specs.Handles.{worker_flavor, worker_view, worker_deque, stealer_deque}
use Rattle.block_deques.specs.declared.block.Block.{Block}
use Rattle.block_deques.specs.declared.block.Hand.{Hand}
use Rattle.block_deques.specs.declared.reach.Reach.{Reach}
use Rattle.block_deques.specs.declared.deck.Deck.{Deck}
use Rattle.block_deques.specs.Hands.{weigh, all_parts}
use Rattle.block_deques.specs.Reaches.{reach_view}
use Rattle.block_deques.specs.Making.{OwnerOf}

-- what the items give, added up
abbrev pub adds : {A : Type 0} → (A → ℕ) → List A → ℕ
adds f [] = 0
adds f (x ∷ xs) = f x + adds f xs

-- the weight of what a pass took, and those that it joined
abbrev pub known : (Block → ℕ) → Hand → ℕ
known h v = weigh h v.taken + weigh h v.joined

-- the weight of what the workers know to be taken
abbrev pub known_to : (Block → ℕ) → List OwnerOf → ℕ
known_to h ws = adds (λ (w : OwnerOf). known h (worker_view w)) ws

-- the weight of what the passes of a row know to be taken
abbrev pub known_in_row : (Block → ℕ) → List Reach → ℕ
known_in_row h rs = adds (λ (r : Reach). known h (reach_view r)) rs

-- the weight of what the passes of all rows know to be taken
abbrev pub known_in_all : (Block → ℕ) → List (Vec Reach Global) → ℕ
known_in_all h rows = adds (λ (row : Vec Reach Global). known_in_row h row.items) rows

-- the weight of what the workers have put
abbrev pub put_on : (Block → ℕ) → List OwnerOf → ℕ
put_on h ws = adds (λ (w : OwnerOf). weigh h (worker_view w).put) ws

-- the worker of a deck
abbrev pub worker_of : Deck → OwnerOf
worker_of d = d.worker

-- the passes of a deck
abbrev pub reaches_of : Deck → Vec Reach Global
reaches_of d = d.reaches

-- the worker of a deque that gives its first block first, which knows all that was put
abbrev pub IsRuling : OwnerOf → Type 0
IsRuling w = (worker_flavor w ≡ 0) × ((worker_view w).owner ≡ true) × (0 < (worker_view w).parts)

-- each is so
abbrev pub AreRuling : List OwnerOf → Type 0
AreRuling ws = (k : ℕ) (w : OwnerOf) → slice_get ws k ≡ Some w → IsRuling w

-- a pass on each deque, in their order
pub record IsRowOn (ws : List OwnerOf) (rs : List Reach) : Type 0 where
  pub count : length rs ≡ length ws
  pub deques : (k : ℕ) (w : OwnerOf) (r : Reach) → slice_get ws k ≡ Some w → slice_get rs k ≡ Some r → stealer_deque r.stealer ≡ worker_deque w

-- each list is so
abbrev pub AreRowsOn : List OwnerOf → List (Vec Reach Global) → Type 0
AreRowsOn ws rows = (k : ℕ) (row : Vec Reach Global) → slice_get rows k ≡ Some row → IsRowOn ws row.items

-- the worker of the same deque, which has so many parts more
abbrev pub HasGained : ℕ → OwnerOf → OwnerOf → Type 0
HasGained parts w v = (worker_deque v ≡ worker_deque w) × (worker_flavor v ≡ worker_flavor w) × ((worker_view v).owner ≡ (worker_view w).owner) × ((worker_view v).parts ≡ (worker_view w).parts + parts) × ((worker_view v).put ≡ (worker_view w).put)

-- each is so
abbrev pub HaveGained : ℕ → List OwnerOf → List OwnerOf → Type 0
HaveGained parts ws vs = (k : ℕ) (w v : OwnerOf) → slice_get ws k ≡ Some w → slice_get vs k ≡ Some v → HasGained parts w v

-- the worker has every part again
abbrev pub HasAllParts : OwnerOf → Type 0
HasAllParts w = (worker_flavor w ≡ 0) × ((worker_view w).owner ≡ true) × ((worker_view w).parts ≡ all_parts)

-- each has
abbrev pub AreWhole : List OwnerOf → Type 0
AreWhole ws = (k : ℕ) (w : OwnerOf) → slice_get ws k ≡ Some w → HasAllParts w
