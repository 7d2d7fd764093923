-- What contracts see of a board: the list of tables shown, and what is pending.
use Rattle.std.specs.Prelude.{◌≡◌, ℕ, ◌<◌, min, List, [], ◌∷◌, ◌++◌, length}
use Rattle.dual_versions.specs.declared.published.Published.{Published}
use Rattle.dual_versions.specs.Tables.{Entries, last_of, after}

-- the list begins with these tables
abbrev pub Begins : List Entries → List Entries → Type 0
Begins seen list = (rest : List Entries) × (list ≡ seen ++ rest)

-- who had seen the first of these lists sees the second one, which has a table
abbrev pub Sees : List Entries → List Entries → Type 0
Sees seen list = (0 < length list) × Begins seen list

-- as a u64 counts: up to 2^64 - 1
abbrev pub saturated : ℕ → ℕ
saturated n = min n 18446744073709551615

-- how many slots there are, how many prices and rates an entry has, the tables shown, and what is pending, with its slots
pub record Board : Type 0 where
  pub slots : ℕ
  pub prices : ℕ
  pub tables : List Entries
  pub pending : List (ℕ × Published)

-- the board with all that is pending shown as the next table; where nothing is, as it was
abbrev pub shown_if : Board → List (ℕ × Published) → Board
shown_if board [] = board
shown_if board (put ∷ puts) = record board { tables = board.tables ++ after (last_of board.tables) board.pending ∷ []; pending = [] }

-- the board after a show
abbrev pub with_pending_shown : Board → Board
with_pending_shown board = shown_if board board.pending
