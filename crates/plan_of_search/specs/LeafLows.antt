-- Lower bounds of the bounds of open leaves, and what is at most all bounds of some of them. No public clause cites this module.
use Rattle.std.specs.Prelude.{ℕ, ℤ, ◌≤ℤ◌, ◌≡◌, ◌<◌, ◌≤◌, List, length, set, Option, Some, None, IfSome, IsSomeAnd, slice_get}
use Rattle.plan_base.specs.declared.ids.BranchId.{BranchId}
use Rattle.search_machine.specs.State.{State}
use Rattle.plan_of_search.specs.PlanParts.{IsLeafBound, IsLimitBelow}

-- each bound of the node of this number, as an open leaf, is at least this one, if there is one
abbrev pub IsLow : State → ℕ → Option ℤ → Type 0
IsLow s n low = IfSome low (λ least. (bound : ℤ) → IsLeafBound s n bound → least ≤ℤ bound)

-- for each node such a lower bound, or none
pub record AreLows (s : State) (lows : List (Option ℤ)) : Type 0 where
  pub count : length lows ≡ length s.nodes
  pub each : (n : ℕ) (low : Option ℤ) → slice_get lows n ≡ Some low → IsLow s n low

-- the list with this entry for both children, if there are some
abbrev pub lows_with : List (Option ℤ) → Option ℤ → Option (BranchId × BranchId) → List (Option ℤ)
lows_with lows low None = lows
lows_with lows low (Some children) = set (set lows children.0.0 low) children.1.0 low

-- there is a least one so far, and it is at most this bound
abbrev pub IsAtMost : Option ℤ → ℤ → Type 0
IsAtMost least bound = IsSomeAnd least (λ l. l ≤ℤ bound)

-- there are a lower bound and a least one so far, which is at most the lower bound
abbrev pub IsNeedless : Option ℤ → Option ℤ → Type 0
IsNeedless low least = IsSomeAnd low (IsAtMost least)

-- it is one of the limits of the state, if there is one
abbrev pub IsLimitOrNone : State → Option ℤ → Type 0
IsLimitOrNone s least = IfSome least (IsLimitBelow s (length s.nodes))

-- a limit that is at most the cost of the best design, if there is one
pub record IsBegun (s : State) (least : Option ℤ) : Type 0 where
  pub is_limit : IsLimitOrNone s least
  pub below_cost : (bound : ℤ) → IsLimitBelow s 0 bound → IsAtMost least bound

-- a limit that is at most what the old one was at most, and at most the bound of each open leaf from the first number up to
-- the second one
pub record IsLesserOver (s : State) (from to : ℕ) (old new : Option ℤ) : Type 0 where
  pub is_limit : IsLimitOrNone s new
  pub keeps : (bound : ℤ) → IsAtMost old bound → IsAtMost new bound
  pub leaves : (n : ℕ) (bound : ℤ) → from ≤ n → n < to → IsLeafBound s n bound → IsAtMost new bound
