-- Prices times what places carry at most where no module is added, place by place.
use Rattle.std.proofs.Common.{◌≡◌, ℕ, zero, suc, ◌+◌, ◌*◌, ◌≤◌, ◌<◌, ◌⊎◌, inl, inr, List, slice_index, arith}
use Rattle.plan_base.specs.declared.parts.Parts.{Parts}
use Rattle.plan_base.specs.Sums.{sum_below}
use Rattle.plan_base.specs.Places.{places}
use Rattle.link_steps.specs.declared.range.LoadRange.{LoadRange}
use Rattle.proof_tree.specs.Evidence.{room_at}
use Rattle.cert_verifier.specs.Totals.{room_price}

either_way : (m n : ℕ) → m ≤ suc n → (m ≤ n) ⊎ (suc n ≤ m)
either_way m n h = grind arith

-- the first terms add up to no more than all
sum_below-rises : (f : ℕ → ℕ) (m n : ℕ) → m ≤ n → sum_below f m ≤ sum_below f n
sum_below-rises f zero zero h = omega arith
sum_below-rises f (suc m) zero h = absurd (omega arith)
sum_below-rises f m (suc n) h = elim (either_way m n h) [
  | inl before ↦ omega (arith, sum_below-rises f m n before)
  | inr whole ↦ (let is : m ≡ suc n = omega arith in rw is (omega arith))
]

-- what the first places come to
abbrev pub room_price_to : Parts → List LoadRange → List ℕ → ℕ → ℕ
room_price_to p ranges prices n = sum_below (λ q. slice_index prices q * room_at p ranges q) n

-- what the first places and the next one come to is no more than what all places come to
pub first-le-room_price : (p : Parts) (ranges : List LoadRange) (prices : List ℕ) (n : ℕ) → n < places p → room_price_to p ranges prices n + slice_index prices n * room_at p ranges n ≤ room_price p ranges prices
first-le-room_price p ranges prices n within = sum_below-rises (λ q. slice_index prices q * room_at p ranges q) (suc n) (places p) within
