-- The columns of the demands: for each demand paths in order, the oldest first.
use Rattle.std.specs.Prelude.{ℕ, ◌≡◌, ◌<◌, ◌≤◌, Bool, not, List, [], ◌∷◌, ◌++◌, length, drop, replicate, filter, slice_get, slice_set, slice_index_or, Some, All, if◌then◌else◌, nat_lt, ◌==◌}
use Rattle.std.specs.List.{list_any, list_all}
use Rattle.std.specs.Ordering.{on}
use Rattle.std.specs.Cmp.Lexicographic.{pointwise}
use Rattle.plan_base.specs.declared.ids.ArcId.{ArcId}
use Rattle.plan_base.specs.declared.parts.Parts.{Parts}
use Rattle.plan_base.specs.Arcs.{demand_at}
use Rattle.plan_base.specs.Paths.{IsSimplePath}
use Rattle.arc_restrict.specs.Restrictions.{Forbidden}
use Rattle.column_pool.specs.declared.limits.TheConstants.{MAX_COLUMNS}
use Rattle.column_pool.specs.declared.row.Added.{Added}
use Rattle.column_pool.specs.declared.row.Added.TheVariants.{New, There}

-- for each demand a list of paths
abbrev pub Columns : Type 0
Columns = List (List (List ArcId))

-- the columns of the demand of a number
abbrev pub columns_at : Columns → ℕ → List (List ArcId)
columns_at columns k = slice_index_or columns k []

-- no demand has a column
abbrev pub no_columns : Parts → Columns
no_columns p = replicate (length p.demands) []

-- both paths have the same arcs
abbrev pub is_same_path : List ArcId → List ArcId → Bool
is_same_path = pointwise (on (λ (a : ArcId). a.0) ◌==◌)

-- the path is one of the columns
abbrev pub is_column : List (List ArcId) → List ArcId → Bool
is_column paths path = list_any (λ other. is_same_path other path) paths

-- the path goes last; where there are too many, the oldest column goes
abbrev pub with_last : List (List ArcId) → List ArcId → List (List ArcId)
with_last paths path = (if nat_lt (length paths) MAX_COLUMNS then paths else drop 1 paths) ++ (path ∷ [])

-- the columns after an addition: a path that is one of them keeps its place, another one goes last
abbrev pub column_added : List (List ArcId) → List ArcId → List (List ArcId)
column_added paths path = if is_column paths path then paths else with_last paths path

-- what an addition answers
abbrev pub answer_of : List (List ArcId) → List ArcId → Added
answer_of paths path = if is_column paths path then There else New

-- the columns of all demands after an addition to one of them
abbrev pub columns_with : Columns → ℕ → List ArcId → Columns
columns_with columns k path = slice_set columns k (column_added (columns_at columns k) path)

-- no arc of the path is forbidden to the demand
abbrev pub is_permitted : Forbidden → ℕ → List ArcId → Bool
is_permitted r k path = list_all (λ a. not (r k a)) path

-- the columns that a restriction permits to a demand, in their order
abbrev pub permitted_at : Forbidden → Columns → ℕ → List (List ArcId)
permitted_at r columns k = filter (is_permitted r k) (columns_at columns k)

-- different simple paths of the demand, and not too many
pub record AreColumnsOf (p : Parts) (k : ℕ) (paths : List (List ArcId)) : Type 0 where
  pub simple : All (IsSimplePath p (demand_at p k)) paths
  pub few : length paths ≤ MAX_COLUMNS
  pub different : (i j : ℕ) (path : List ArcId) → slice_get paths i ≡ Some path → slice_get paths j ≡ Some path → i ≡ j

-- for each demand different simple paths of it, and not too many
pub record AreColumns (p : Parts) (columns : Columns) : Type 0 where
  pub count : length columns ≡ length p.demands
  pub each : (k : ℕ) → k < length p.demands → AreColumnsOf p k (columns_at columns k)
