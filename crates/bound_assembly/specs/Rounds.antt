-- What a round holds, and which demands it still waits for.
use Rattle.std.specs.Prelude.{ℕ, ◌≡◌, ◌<◌, Bool, true, List, length, replicate, slice_index_or, slice_set, sum_by, Option, Some, None, IsSome}
use Rattle.plan_base.specs.declared.ids.BranchId.{BranchId}

-- a round: whether it has begun, the search node and the version that it is of, one price for each link in thousandths
-- of a cost grain per load grain, and for each demand the length that was put, in the same unit
pub record RoundState : Type 0 where
  pub begun : Bool
  pub node : BranchId
  pub version : ℕ
  pub prices : List ℕ
  pub lengths : List (Option ℕ)

-- the length of a demand, if one was put
abbrev pub length_at : List (Option ℕ) → ℕ → Option ℕ
length_at lengths k = slice_index_or lengths k None

-- the demand has a length
abbrev pub HasLength : List (Option ℕ) → ℕ → Type 0
HasLength lengths k = IsSome (length_at lengths k)

-- 1 for a demand without a length
abbrev pub gap_of : Option ℕ → ℕ
gap_of None = 1
gap_of (Some price) = 0

-- how many demands have no length
abbrev pub left_in : List (Option ℕ) → ℕ
left_in lengths = sum_by gap_of lengths

-- the lowest demand without a length
pub record IsFirstLeft (lengths : List (Option ℕ)) (k : ℕ) : Type 0 where
  pub within : k < length lengths
  pub without : length_at lengths k ≡ None
  pub before : (j : ℕ) → j < k → HasLength lengths j

-- the round that begins: of this node and version, at these prices, with no length
abbrev pub restarted : RoundState → BranchId → ℕ → List ℕ → RoundState
restarted old node version prices = record {
  begun = true;
  node = node;
  version = version;
  prices = prices;
  lengths = replicate (length old.lengths) None;
}

-- the round with a length put for a demand
abbrev pub with_length : RoundState → ℕ → ℕ → RoundState
with_length old k price = record old { lengths = slice_set old.lengths k (Some price) }
