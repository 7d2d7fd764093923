-- Tables of entries: for each slot what was put there, or nothing.
use Rattle.std.specs.Prelude.{ℕ, List, [], ◌∷◌, set, fold, Option, Some, None, slice_index_or}
use Rattle.dual_versions.specs.declared.published.Published.{Published}

-- a table: the entry of each slot, or none
abbrev pub Entries : Type 0
Entries = List (Option Published)

-- the table with this entry in this slot
abbrev pub after_put : Entries → ℕ × Published → Entries
after_put table put = set table put.0 (Some put.1)

-- the table after these entries were put into their slots, in their order
abbrev pub after : Entries → List (ℕ × Published) → Entries
after table puts = fold after_put table puts

-- the last of these tables; the empty one where there is none
abbrev pub last_of : List Entries → Entries
last_of [] = []
last_of (table ∷ []) = table
last_of (table ∷ next ∷ rest) = last_of (next ∷ rest)

-- the entry of this slot in the last of these tables
abbrev pub entry_at : ℕ → List Entries → Option Published
entry_at slot tables = slice_index_or (last_of tables) slot None
