-- Counts of faults and of calls, and why a call failed.
use Rattle.std.specs.Prelude.{ℕ, ◌≡◌, ◌+◌, ◌-◌, ◌^◌, ◌<◌, ◌≤◌, min, Result, OnErr, Bool, if◌then◌else◌}

-- one fault more; the count stands still at 2^64 - 1
abbrev pub one_fault_more : ℕ → ℕ
one_fault_more before = min (before + 1) (2 ^ 64 - 1)

-- the count of faults is greater, or stands at its last value
abbrev pub Rose : ℕ → ℕ → Type 0
Rose before now = one_fault_more before ≤ now

-- the count of faults after a call that counts exactly its failure
abbrev pub faults_after : ℕ → Bool → ℕ
faults_after before has_failed = if has_failed then one_fault_more before else before

-- the count of faults never falls, and the call failed only where it rose
pub record HasCause {T E : Type 0} (before now : ℕ) (result : Result T E) : Type 0 where
  pub later : before ≤ now
  pub failed : OnErr result (Rose before now)

-- the count goes up by one while it is below 2^63, and then stands still
pub record CountsUp (before now : ℕ) : Type 0 where
  pub below : before < 2 ^ 63 → now ≡ before + 1
  pub at_end : 2 ^ 63 ≤ before → now ≡ before
