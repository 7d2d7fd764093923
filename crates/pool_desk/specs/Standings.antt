-- What a gate is told of a search.
use Rattle.std.specs.Prelude.{ℕ, ℤ, pos, Bool, Option, Some, None, option_and_then, min, int_lt, unsigned_abs, if◌then◌else◌}
use Rattle.plan_io.specs.declared.gate.Standing.{Standing}
use Rattle.search_machine.specs.State.{State, cutoff_of}
use Rattle.pool_core.specs.OpenBounds.{open_bound_of}

-- a bound, or the cost where that is less
abbrev pub at_most : Option ℕ → ℕ → ℕ
at_most None bound = bound
at_most (Some cost) bound = min bound cost

-- what is told of a bound beside the cost: nothing where it is negative
abbrev pub told_bound : Option ℕ → ℤ → Option ℕ
told_bound cost bound = if int_lt bound (pos 0) then None else Some (at_most cost (unsigned_abs bound))

-- the bound of the search, where it is known and not negative
abbrev pub bound_of : State → Option ℕ
bound_of s = option_and_then (told_bound (cutoff_of s)) (open_bound_of s)

-- how far the search is in this state, with the bound where it is asked for
abbrev pub standing_of : Bool → State → Standing
standing_of asks s = record { examined = s.examined; budget = s.budget; cost = cutoff_of s; bound = if asks then bound_of s else None }
