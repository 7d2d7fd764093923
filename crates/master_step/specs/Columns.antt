-- The least columns at some prices.
use Rattle.std.specs.Prelude.{ℕ, ◌≡◌, ◌<◌, ◌≤◌, List, [], ◌∷◌, length, slice_get, Some, All, if◌then◌else◌, nat_lt}
use Rattle.std.specs.List.{fold}
use Rattle.plan_base.specs.declared.ids.ArcId.{ArcId}
use Rattle.plan_base.specs.declared.parts.Parts.{Parts}
use Rattle.arc_restrict.specs.Prices.{price_of}
pub use Rattle.arc_restrict.specs.Rows.{forbids}
pub use Rattle.column_pool.specs.Columns.{columns_at, permitted_at, AreColumns}

-- for the demand of each number the columns that it chooses among, in order
abbrev pub Choices : Type 0
Choices = ℕ → List (List ArcId)

-- the cheaper of two columns, the first of them where both cost the same
abbrev pub cheaper : Parts → List ℕ → List ArcId → List ArcId → List ArcId
cheaper p prices first second = if nat_lt (price_of p prices second) (price_of p prices first) then second else first

-- the first column of least price; no arcs where there is no column
unfoldable pub least_column : Parts → List ℕ → List (List ArcId) → List ArcId
least_column p prices [] = []
least_column p prices (path ∷ paths) = fold (cheaper p prices) path paths

-- what that column costs, in thousandths of a cost grain per load grain
abbrev pub least_price : Parts → List ℕ → List (List ArcId) → ℕ
least_price p prices paths = price_of p prices (least_column p prices paths)

-- the path stands among the columns, none of them costs less, and those before it cost more
pub record IsFirstLeast (p : Parts) (prices : List ℕ) (paths : List (List ArcId)) (path : List ArcId) : Type 0 where
  pub place : ℕ
  pub is_path : slice_get paths place ≡ Some path
  pub least : All (λ other. price_of p prices path ≤ price_of p prices other) paths
  pub first : (i : ℕ) (other : List ArcId) → i < place → slice_get paths i ≡ Some other → price_of p prices path < price_of p prices other

-- each demand has a column
abbrev pub HasColumns : Parts → Choices → Type 0
HasColumns p choices = (k : ℕ) → k < length p.demands → 0 < length (choices k)

-- the first demand without a column
pub record IsFirstBare (p : Parts) (choices : Choices) (k : ℕ) : Type 0 where
  pub within : k < length p.demands
  pub none : length (choices k) ≡ 0
  pub before : (i : ℕ) → i < k → 0 < length (choices i)
