-- Sums of whole numbers that may be negative.
use Rattle.std.proofs.Common.{ℕ, zero, suc, ◌<◌, arith}
use Rattle.std.specs.Prelude.{ℤ, pos, ◌-ℤ◌, ◌≤ℤ◌}
use Rattle.std.proofs.lemmas.Int.{ints}
use Rattle.plan_base.specs.Sums.{sum_below, int_sum_below}

-- a sum of numbers, each of which is at most a difference
pub int_sum_below-le : (values : ℕ → ℤ) (f g : ℕ → ℕ) (n : ℕ) → ((i : ℕ) → i < n → values i ≤ℤ (pos (f i) -ℤ pos (g i))) → int_sum_below values n ≤ℤ (pos (sum_below f n) -ℤ pos (sum_below g n))
int_sum_below-le values f g zero h = omega (arith, ints)
int_sum_below-le values f g (suc n) h = omega (arith, ints, int_sum_below-le values f g n (λ i below. h i (omega arith)), h n (omega arith))
