-- Pieces of the choice of least columns. No public clause cites this module.
use Rattle.std.specs.Prelude.{ℕ, ◌≡◌, ◌<◌, Bool, true, List, [], length, take, filter, slice_index_or, Option, Some, None, if◌then◌else◌, nat_lt}
use Rattle.plan_base.specs.declared.ids.ArcId.{ArcId}
use Rattle.plan_base.specs.declared.parts.Parts.{Parts}
use Rattle.plan_base.specs.Arcs.{demand_at}
use Rattle.plan_base.specs.Paths.{IsSimplePath}
use Rattle.arc_restrict.specs.Rows.{forbids}
pub use Rattle.arc_restrict.specs.Prices.{AreWithinLimit}
use Rattle.column_pool.specs.Columns.{columns_at, is_permitted}
use Rattle.master_step.specs.declared.source.Source.{Source}
use Rattle.master_step.specs.declared.source.Source.TheVariants.{Lists, Pool}
use Rattle.master_step.specs.declared.source.Least.{Least}
use Rattle.master_step.specs.Columns.{least_column, least_price}
pub use Rattle.master_step.specs.Columns.{HasColumns}

-- how many demands there are lists for
abbrev pub list_count : Source → ℕ
list_count (Lists lists) = length lists.now
list_count (Pool pool restriction) = length pool.now

-- the columns of a demand, permitted or not
abbrev pub all_of : Source → ℕ → List (List ArcId)
all_of (Lists lists) k = columns_at lists.now k
all_of (Pool pool restriction) k = columns_at pool.now k

-- the demand may take the path
abbrev pub is_allowed : Source → ℕ → List ArcId → Bool
is_allowed (Lists lists) k path = true
is_allowed (Pool pool restriction) k path = is_permitted (forbids restriction.now) k path

-- the columns that a demand may take
abbrev pub allowed_of : Source → ℕ → List (List ArcId)
allowed_of source k = filter (is_allowed source k) (all_of source k)

-- a list of simple paths for each demand
pub record IsSource (p : Parts) (source : Source) : Type 0 where
  pub count : list_count source ≡ length p.demands
  pub simple : (k i : ℕ) → k < length p.demands → i < length (all_of source k) → IsSimplePath p (demand_at p k) (slice_index_or (all_of source k) i [])

-- the place and the price of the least of the columns before a place that pass a test
pub record IsLeastAt (p : Parts) (prices : List ℕ) (test : List ArcId → Bool) (all : List (List ArcId)) (count : ℕ) (least : Least) : Type 0 where
  pub some : 0 < length (filter test (take count all))
  pub within : least.place < count
  pub is_path : slice_index_or all least.place [] ≡ least_column p prices (filter test (take count all))
  pub is_price : least.price ≡ least_price p prices (filter test (take count all))

-- the least of them, or that none passes
abbrev pub IsLeastOf : Parts → List ℕ → (List ArcId → Bool) → List (List ArcId) → ℕ → Option Least → Type 0
IsLeastOf p prices test all count None = filter test (take count all) ≡ []
IsLeastOf p prices test all count (Some least) = IsLeastAt p prices test all count least

-- the cheaper of two, the first of them where both cost the same
abbrev pub cheaper_of : Option Least → Least → Least
cheaper_of None next = next
cheaper_of (Some least) next = if nat_lt next.price least.price then next else least
