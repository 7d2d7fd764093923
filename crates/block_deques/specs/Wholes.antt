-- The theorem's words: all decks of one making, and all that they have put and taken. `gather_decks` has them as its contract.
use Rattle.std.specs.Prelude.{◌≡◌, ℕ, ◌≤◌, ◌==◌, ◌&&◌, if◌then◌else◌, List, [], length, map, Some, slice_get, IsPermutation}
use Rattle.std.specs.List.{flat_map}
use Rattle.block_deques.specs.declared.block.Block.{Block}
use Rattle.block_deques.specs.declared.deck.Deck.{Deck}
use Rattle.block_deques.specs.Hands.{weigh}
use Rattle.block_deques.specs.Decks.{DeckId, deck_id, put_by, popped_by, stolen_by, taken_by}

-- each deck stands at its number, and has a pass on the deque of each
pub record IsMaking (ids : List DeckId) : Type 0 where
  pub numbers : (k : ℕ) (id : DeckId) → slice_get ids k ≡ Some id → id.number ≡ k
  pub all : (k : ℕ) (id : DeckId) → slice_get ids k ≡ Some id → id.all ≡ map (λ (i : DeckId). i.own) ids

-- they are all decks of one making, in the order of their numbers
abbrev pub AreOneMaking : List Deck → Type 0
AreOneMaking ds = IsMaking (map deck_id ds)

-- they are all decks of one making, in any order
pub record AreAllDecks (ds : List Deck) : Type 0 where
  pub ordered : List Deck
  pub same : IsPermutation ordered ds
  pub making : AreOneMaking ordered

-- it has put and taken nothing
pub record IsNewDeck (d : Deck) : Type 0 where
  pub put : put_by d ≡ []
  pub popped : popped_by d ≡ []
  pub stolen : (victim : ℕ) → stolen_by d victim ≡ []

-- so many decks of one making, which have put and taken nothing
pub record AreNewDecks (count : ℕ) (ds : List Deck) : Type 0 where
  pub length_is : length ds ≡ count
  pub making : AreOneMaking ds
  pub new : (k : ℕ) (d : Deck) → slice_get ds k ≡ Some d → IsNewDeck d

-- all blocks that the decks have put
abbrev pub all_put : List Deck → List Block
all_put ds = flat_map put_by ds

-- all blocks that the decks have taken
abbrev pub all_taken : List Deck → List Block
all_taken ds = flat_map taken_by ds

-- each block stands in the one list as often as in the other: however blocks are weighed, both weigh the same
abbrev pub HaveSame : List Block → List Block → Type 0
HaveSame xs ys = (weight : Block → ℕ) → weigh weight xs ≡ weigh weight ys

-- 1 for a block with this deck's number and this index, and 0 for any other
abbrev pub one_at : ℕ → ℕ → Block → ℕ
one_at deck index block = if (block.deck == deck) && (block.index == index) then 1 else 0

-- how many of the blocks have this deck's number and this index
abbrev pub times : ℕ → ℕ → List Block → ℕ
times deck index blocks = weigh (one_at deck index) blocks

-- no two blocks have one deck's number and one index
abbrev pub IsEachOnce : List Block → Type 0
IsEachOnce blocks = (deck index : ℕ) → times deck index blocks ≤ 1
