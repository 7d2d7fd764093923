-- How a restriction is kept: for each demand to which arcs are forbidden a row of bits, one for each arc, in words of 64 bits.
use Rattle.std.specs.Prelude.{ℕ, ◌≡◌, ◌≤◌, ◌<◌, ◌+◌, ◌-◌, ◌*◌, ◌/◌, ◌%◌, ◌==◌, ◌&&◌, min, List, length, slice_index, sum_by, nat_lt}
use Rattle.std.specs.Int.{bit_at}
use Rattle.plan_base.specs.declared.ids.ArcId.{ArcId}
use Rattle.plan_base.specs.declared.parts.Parts.{Parts}
use Rattle.plan_base.specs.declared.limits.TheConstants.{MAX_DEMANDS, MAX_LINKS}
use Rattle.arc_restrict.specs.Restrictions.{Forbidden}

-- how many demands and arcs a restriction has, the number of each demand's row, from 1 on, or 0 where it has none, and the words of the rows, one row after the other
pub record Rows : Type 0 where
  pub demands : ℕ
  pub arcs : ℕ
  pub row_of : List ℕ
  pub words : List ℕ

-- how many words a row of this many arcs has
abbrev pub row_len : ℕ → ℕ
row_len arcs = (arcs + 63) / 64

-- the place of the word with an arc's bit in the row behind this many others
abbrev pub place_of : ℕ → ℕ → ArcId → ℕ
place_of arcs before a = before * row_len arcs + a.0 / 64

-- what the rows forbid: the arcs whose bit is set in the row of the demand of a number
unfoldable pub forbids : Rows → Forbidden
forbids rows k a =
    nat_lt 0 (slice_index rows.row_of k) && (nat_lt a.0 rows.arcs && (bit_at (slice_index rows.words (place_of rows.arcs (slice_index rows.row_of k - 1) a)) (a.0 % 64) == 1))

-- a place for each demand and for each number of an arc of the instance
pub record HasSizeOf (p : Parts) (rows : Rows) : Type 0 where
  pub demands : rows.demands ≡ length p.demands
  pub arcs : rows.arcs ≡ 2 * length p.links

-- how many demands have a row
abbrev pub with_rows : List ℕ → ℕ
with_rows row_of = sum_by (λ number. min number 1) row_of

-- this many rows, each of another demand, with room for as many words
pub record IsKept (rows : Rows) (used room : ℕ) : Type 0 where
  pub few_demands : rows.demands ≤ MAX_DEMANDS
  pub few_arcs : rows.arcs ≤ 2 * MAX_LINKS
  pub all_demands : length rows.row_of ≡ rows.demands
  pub counted : with_rows rows.row_of ≡ used
  pub within : (k : ℕ) → slice_index rows.row_of k ≤ used
  pub apart : (j k : ℕ) → 0 < slice_index rows.row_of j → slice_index rows.row_of j ≡ slice_index rows.row_of k → j ≡ k
  pub whole : length rows.words ≡ used * row_len rows.arcs
  pub has_room : rows.demands * row_len rows.arcs ≤ room
