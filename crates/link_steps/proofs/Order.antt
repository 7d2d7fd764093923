-- Two numbers in order, by cases.
use Rattle.std.proofs.Common.{◌≡◌, ◌≢◌, ℕ, ◌+◌, ◌<◌, ◌≤◌, ◌⊎◌, arith}

-- a number is at most another one or above it
pub either_way : (x y : ℕ) → (x ≤ y) ⊎ (y < x)
either_way x y = grind arith

-- a number up to the last one is before it or is it
pub before_or_last : (i n : ℕ) → i < n + 1 → (i < n) ⊎ (i ≡ n)
before_or_last i n h = grind arith

-- two numbers are the same or not
pub same_or_not : (m n : ℕ) → (m ≡ n) ⊎ (m ≢ n)
same_or_not m n = grind arith
