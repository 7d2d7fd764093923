-- What an owner and a thief of a deque are.
use Rattle.std.specs.Prelude.{◌≡◌, ℕ, ◌<◌, ◌+◌, true, false, [], List, length, slice_index_or}
use Rattle.std.specs.declared.alloc.Global.{Global}
use Rattle.crossbeam_deque.specs.declared.handles.Worker.{Worker}
use Rattle.crossbeam_deque.specs.declared.handles.Stealer.{Stealer}
use Rattle.crossbeam_deque.specs.Handles.{Pass, view, IsPassOf, stealer_deque, worker_flavor, stealer_flavor, worker_view}
use Rattle.block_deques.specs.declared.block.Block.{Block}
use Rattle.block_deques.specs.declared.block.Hand.{Hand}
use Rattle.block_deques.specs.declared.plays.Law.{Law}
use Rattle.block_deques.specs.Hands.{all_parts}

-- the worker of a deque that gives its first block first; it has all parts but one for each deck, and has joined nobody
abbrev pub IsOwner : ℕ → Worker Block Global Hand Law → Type 0
IsOwner decks w = (worker_flavor w ≡ 0) × ((worker_view w).owner ≡ true) × ((worker_view w).parts + decks ≡ all_parts) × ((worker_view w).joined ≡ [])

-- a pass on such a deque that may be another deck's; it has one part, and has joined nobody
abbrev pub IsThief : Stealer Block Global Hand Law → Pass Block Hand Global → Type 0
IsThief s p = (stealer_flavor s ≡ 0) × IsPassOf (stealer_deque s) p × ((view p).owner ≡ false) × ((view p).parts ≡ 1) × ((view p).joined ≡ [])

-- the block at a place
abbrev pub block_at : List Block → ℕ → Block
block_at blocks place = slice_index_or blocks place (record { deck = 0; index = 0; slot = 0; node = record { 0 = 0 }; version = 0; first = 0; count = 0 })

-- each block has this deck's number, and its place as its index
abbrev pub AreDeckBlocks : ℕ → List Block → Type 0
AreDeckBlocks deck blocks = (place : ℕ) → place < length blocks → ((block_at blocks place).deck ≡ deck) × ((block_at blocks place).index ≡ place)
