-- Which open leaves are a part's, and which of these a search begins at.
use Rattle.std.specs.Prelude.{ℕ, suc, ◌≡◌, ◌<◌, ◌≤◌, ◌+◌, ◌*◌, ◌-◌, ◌↔◌, Bool, true, false, IsTrue, if◌then◌else◌, List, [], ◌∷◌, ◌++◌, length, slice_index_or, Option, Some, None, ℤ, pos, ◌≤ℤ◌, IsPermutation}
use Rattle.proof_tree.specs.Plans.{is_open}
use Rattle.plan_merge.specs.declared.bounded_record.BoundedRecord.{BoundedRecord}
use Rattle.plan_merge.specs.declared.choosing.Part.{Part}
use Rattle.plan_merge.specs.declared.choosing.TheConstants.{MAX_PARTS}

-- what an open leaf is ordered by: whether it has no bound, its bound or 0, and its place
abbrev pub Key : Type 0
Key = Bool × ℤ × ℕ

abbrev pub key_by : Option ℤ → ℕ → Key
key_by None place = (true, pos 0, place)
key_by (Some bound) place = (false, bound, place)

abbrev pub key_of : BoundedRecord → ℕ → Key
key_of x place = key_by x.bound place

-- the keys of the open leaves of records of which the first one has this place
abbrev pub keys_from : ℕ → List BoundedRecord → List Key
keys_from place [] = []
keys_from place (x ∷ xs) = (if is_open x.node then key_of x place ∷ [] else []) ++ keys_from (suc place) xs

-- the first leaf has a bound if the second has one, no greater one, and of equal bounds no later place
pub record IsAhead (one other : Key) : Type 0 where
  pub has_bound : other.0 ≡ false → one.0 ≡ false
  pub bound : one.0 ≡ other.0 → one.1 ≤ℤ other.1
  pub place : one.0 ≡ other.0 → one.1 ≡ other.1 → one.2 ≤ other.2

-- the key of this rank
abbrev pub key_at : List Key → ℕ → Key
key_at order rank = slice_index_or order rank (false, pos 0, 0)

-- the keys of all open leaves in order
pub record IsOrder (xs : List BoundedRecord) (order : List Key) : Type 0 where
  pub leaves : IsPermutation (keys_from 0 xs) order
  pub ahead : (rank : ℕ) → suc rank < length order → IsAhead (key_at order rank) (key_at order (suc rank))

-- one of at least one part and not too many
pub record IsPart (part : Part) : Type 0 where
  pub some : 1 ≤ part.number
  pub within : part.number ≤ part.parts
  pub few : part.parts ≤ MAX_PARTS

-- the rank of a part's leaf of this turn: leaves are dealt out to the parts in turn
abbrev pub rank_of : Part → ℕ → ℕ
rank_of part turn = (part.number - 1) + turn * part.parts

-- in one of the first so many turns the part gets the leaf at this place
pub record IsChosen (order : List Key) (part : Part) (budget place : ℕ) : Type 0 where
  pub turn : ℕ
  pub within : turn < budget
  pub some : rank_of part turn < length order
  pub is_place : (key_at order (rank_of part turn)).2 ≡ place

-- for each of so many places whether the part gets its leaf
pub record AreChosenBy (order : List Key) (part : Part) (budget count : ℕ) (chosen : List Bool) : Type 0 where
  pub count_is : length chosen ≡ count
  pub each : (place : ℕ) → place < count → IsTrue (slice_index_or chosen place false) ↔ IsChosen order part budget place

-- the same by the order of all open leaves
pub record AreChosen (xs : List BoundedRecord) (part : Part) (budget : ℕ) (chosen : List Bool) : Type 0 where
  pub order : List Key
  pub is_order : IsOrder xs order
  pub chosen_by : AreChosenBy order part budget (length xs) chosen
