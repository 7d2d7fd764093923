-- When a brief is one for an instance with a list of cuts.
use Rattle.std.specs.Prelude.{ℕ, ◌≡◌, ◌<◌, List, length, All}
use Rattle.plan_base.specs.declared.ids.ArcId.{ArcId}
use Rattle.plan_base.specs.declared.parts.Parts.{Parts}
use Rattle.plan_base.specs.Arcs.{demand_at}
use Rattle.plan_base.specs.Paths.{IsSimplePath}
use Rattle.link_steps.specs.declared.range.LoadRange.{LoadRange}
use Rattle.link_steps.specs.Ranges.{AreRanges}
use Rattle.proof_tree.specs.declared.cuts.Cut.{Cut}
use Rattle.cut_values.specs.Numbers.{AreNumbers}
use Rattle.column_pool.specs.Columns.{Columns, columns_at}

-- simple paths of the demand of a number
abbrev pub ArePathsOf : Parts → ℕ → List (List ArcId) → Type 0
ArePathsOf p k paths = All (λ path. IsSimplePath p (demand_at p k) path) paths

-- the lists of the demands before a number hold simple paths of them
abbrev pub AreAllPaths : Parts → Columns → ℕ → Type 0
AreAllPaths p columns count = (k : ℕ) → k < count → ArePathsOf p k (columns_at columns k)

-- one price for each place and one rate for each cut, as they have to be, a range for each place, and for each demand a list
-- of simple paths of it
pub record IsBriefFor (p : Parts) (cuts : List Cut) (numbers : List ℕ) (ranges : List LoadRange) (columns : Columns) : Type 0 where
  pub are_numbers : AreNumbers p cuts numbers
  pub are_ranges : AreRanges p ranges
  pub list_count : length columns ≡ length p.demands
  pub paths : AreAllPaths p columns (length p.demands)
