-- Entries by number, of which some are missing.
use Rattle.std.specs.Prelude.{ℕ, List, Option, None, slice_index_or}

-- the entry of this number, if it is there
abbrev pub entry_at : {A : Type 0} → List (Option A) → ℕ → Option A
entry_at xs k = slice_index_or xs k None
