-- How a round keeps count of the demands without a length; no public contract cites it.
use Rattle.std.specs.Prelude.{ℕ, ◌≡◌, ◌<◌, ◌≤◌, ◌^◌, List, length, Option, None}
use Rattle.bound_assembly.specs.Rounds.{length_at, HasLength, left_in}

-- each demand before this one has a length
pub record AreFullBefore (lengths : List (Option ℕ)) (place : ℕ) : Type 0 where
  pub within : place ≤ length lengths
  pub before : (j : ℕ) → j < place → HasLength lengths j

-- the lowest demand without a length, or the count of demands where there is none
pub record IsNextLeft (lengths : List (Option ℕ)) (place : ℕ) : Type 0 where
  pub full : AreFullBefore lengths place
  pub here : place < length lengths → length_at lengths place ≡ None

-- the count and the place that a round keeps are those of its lengths
pub record AreKept (lengths : List (Option ℕ)) (left first : ℕ) : Type 0 where
  pub few : length lengths < 2 ^ 32
  pub count : left ≡ left_in lengths
  pub next : IsNextLeft lengths first
