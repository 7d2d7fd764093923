-- What the writer and the readers of a board know of its list of tables, and the rule that they keep. No public clause
-- cites this module.
use Rattle.std.specs.Prelude.{◌≡◌, ℕ, ◌+◌, ◌-◌, ◌<◌, List, [], ◌∷◌, ◌++◌, length, Option, Bool, true, false}
use mathlib.Core.Option.{some}
use lib.ListN.{get_elem?}
use Rattle.dual_versions.specs.declared.table.Table.{Table}
use Rattle.dual_versions.specs.declared.table.Put.{Put}
use Rattle.dual_versions.specs.declared.rule.View.{View}
use Rattle.atomic_table.specs.declared.shared.Seat.{Seat}
use Rattle.left_right.specs.Sides.{view}
use Rattle.left_right.specs.declared.part.Part.{Part}
use Rattle.left_right.specs.declared.board.Doing.{Doing}
use Rattle.dual_versions.specs.Tables.{Entries}
use Rattle.dual_versions.specs.Boards.{Begins, saturated}
use Rattle.dual_versions.specs.Rows.{shown_entries, HaveRoom}

-- the view is a beginning of the list; where it writes it is the writer's, who has shown a table, and the whole list
pub record Fits (list : List Entries) (number writer seat : ℕ) (v : View) : Type 0 where
  pub seen : Begins v.seen list
  pub whole : v.writes ≡ true → (0 < number) × (seat ≡ writer) × (v.seen ≡ list)

-- the tables shown form one list, of which this table is the last, and each view fits it
pub record IsKept (x : Table) (views : List View) : Type 0 where
  pub before : List Entries
  pub writer : ℕ
  pub number : x.number ≡ saturated (length before)
  pub seats : (seat : ℕ) (v : View) → get_elem? views seat ≡ some v → Fits (before ++ shown_entries x.rows.items ∷ []) x.number writer seat v

-- who has seen no table
abbrev pub newcomer : View
newcomer = record { seen = []; writes = false }

-- the list for one that may have shown a table: a writer that has not knows that there is one table
abbrev pub tables_if : Bool → List Entries → Entries → List Entries
tables_if true seen now = seen
tables_if false seen now = now ∷ []

-- the list of tables, as the writer knows it
abbrev pub tables_of : View → Table → List Entries
tables_of v x = tables_if v.writes v.seen (shown_entries x.rows.items)

-- a show: the list is one table longer, and the writer knows it
abbrev pub Shown : View → Table → Table → View → Type 0
Shown v x y w = w ≡ record { seen = tables_of v x ++ shown_entries y.rows.items ∷ []; writes = true }

-- an entering: the whole list was seen, and it begins with what was seen before
pub record Entered (v : View) (x y : Table) (w : View) : Type 0 where
  pub before : List Entries
  pub all : w ≡ record { seen = before ++ shown_entries x.rows.items ∷ []; writes = false }
  pub number : x.number ≡ saturated (length before)
  pub later : Begins v.seen w.seen

-- an entry for a slot that there is, with as many prices and rates as a row, for the table behind that of this number
abbrev pub IsPut : ℕ → ℕ → ℕ → Put → Type 0
IsPut slots prices number put = (put.slot < slots) × (length put.what.prices ≡ prices) × (put.number ≡ saturated (number + 1))

-- each of them is
abbrev pub ArePuts : ℕ → ℕ → ℕ → List Put → Type 0
ArePuts slots prices number [] = Unit {0}
ArePuts slots prices number (put ∷ puts) = IsPut slots prices number put × ArePuts slots prices number puts

-- the writer's view, the table that is shown, and what is pending go together
pub record IsBoard (prices : ℕ) (v : View) (x : Table) (pending : List Put) : Type 0 where
  pub fresh : v.writes ≡ false → x.number ≡ 0
  pub number : x.number ≡ saturated (length (tables_of v x) - 1)
  pub last : (before : List Entries) × (tables_of v x ≡ before ++ shown_entries x.rows.items ∷ [])
  pub rows : HaveRoom prices x.rows.items
  pub puts : ArePuts (length x.rows.items) prices x.number pending

-- what a place at the board knows
abbrev pub known_by : Seat (Option (Part Table)) (Doing Table View) → View
known_by place = view place
