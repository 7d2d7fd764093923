-- Without cuts numbers are prices alone.
use Rattle.std.proofs.Common.{◌≡◌, ℕ, List, [], ◌∷◌, length, arith}
use Rattle.std.specs.Prelude.{◌↔◌, ℤ}
use Rattle.plan_base.specs.declared.parts.Parts.{Parts}
use Rattle.link_steps.specs.declared.range.LoadRange.{LoadRange}
use Rattle.link_steps.specs.Values.{IsValueTotal}
use Rattle.arc_restrict.specs.Prices.{AreWithinLimit}
use Rattle.proof_tree.specs.declared.cuts.Cut.{Cut}
use Rattle.proof_tree.specs.RatedBounds.{IsRatedTotal}
use Rattle.proof_tree.specs.RatedEvidence.{rates_in, AreLawfulNumbers}
use Rattle.proof_tree.proofs.CutlessBounds.{total-without_cuts}
use Rattle.proof_tree.proofs.CutlessPlans.{lawful-without}

-- they are as they have to be where none is above the limit
pub prices_lawful : (p : Parts) (cuts : List Cut) (numbers : List ℕ) → length cuts ≡ 0 → AreWithinLimit p numbers ↔ AreLawfulNumbers p cuts numbers
prices_lawful p [] numbers none = (λ within. lawful-without p numbers within, λ lawful. lawful.prices_within)
prices_lawful p (cut ∷ cuts) numbers none = absurd (omega arith)

-- and the values of links are those at prices
pub prices_total : (p : Parts) (cuts : List Cut) (ranges : List LoadRange) (numbers : List ℕ) (total : ℤ) → length cuts ≡ 0 → IsValueTotal p ranges numbers (length p.links) total
    → IsRatedTotal p cuts ranges numbers (rates_in p numbers) (length p.links) total
prices_total p [] ranges numbers total none is = total-without_cuts p ranges numbers (rates_in p numbers) (length p.links) total is
prices_total p (cut ∷ cuts) ranges numbers total none is = absurd (omega arith)
