-- Rows that take entries in: the room of a table. No public clause cites this module.
use Rattle.std.specs.Prelude.{◌≡◌, ℕ, zero, suc, ◌==◌, List, [], ◌∷◌, length, map, replicate, true, false, Option, Some, None, if◌then◌else◌}
use Rattle.plan_base.specs.declared.ids.BranchId.{BranchId}
use Rattle.dual_versions.specs.declared.published.Published.{Published}
use Rattle.dual_versions.specs.declared.row.Row.{Row}
use Rattle.dual_versions.specs.declared.table.Put.{Put}
use Rattle.dual_versions.specs.Tables.{Entries}

-- what a row shows
abbrev pub row_entry : Row → Option Published
row_entry row = if row.shown then Some row.what else None

-- what rows show
abbrev pub shown_entries : List Row → Entries
shown_entries rows = map row_entry rows

-- the row with this entry, where it has room for just as many prices and rates
abbrev pub filled : Row → Published → Row
filled row what = if length what.prices == length row.what.prices then record { shown = true; what = what } else row

-- the rows with this entry in this slot, if there is one
abbrev pub put_row : List Row → ℕ → Published → List Row
put_row [] slot what = []
put_row (row ∷ rows) zero what = filled row what ∷ rows
put_row (row ∷ rows) (suc slot) what = row ∷ put_row rows slot what

-- the number of a table and its rows after an entry
abbrev pub taken : ℕ × List Row → Put → ℕ × List Row
taken table put = (put.number, put_row table.1 put.slot put.what)

-- slot and entry
abbrev pub pair_of : Put → ℕ × Published
pair_of put = (put.slot, put.what)

-- each row has room for this many prices and rates
abbrev pub HaveRoom : ℕ → List Row → Type 0
HaveRoom n [] = Unit {0}
HaveRoom n (row ∷ rows) = (length row.what.prices ≡ n) × HaveRoom n rows

-- a row without an entry, which has room for this many prices and rates
abbrev pub blank : BranchId → ℕ → Row
blank node n = record { shown = false; what = record { node = node; version = 0; prices = replicate n 0 } }
