-- The evidence that a leaf gives with cuts against a cost or none.
use Rattle.std.specs.Prelude.{ℕ, List, drop, Option, IsSomeAnd, ℤ, pos, ◌+ℤ◌, ◌<ℤ◌}
use Rattle.plan_base.specs.declared.parts.Parts.{Parts}
use Rattle.plan_base.specs.Places.{places}
use Rattle.link_steps.specs.Unit.{IsUnit}
use Rattle.proof_tree.specs.declared.cuts.Cut.{Cut as LoadCut}
use Rattle.proof_tree.specs.declared.tree.Evidence.{Evidence}
use Rattle.proof_tree.specs.declared.tree.Evidence.TheVariants.{Bound, Routed, Overfull, Cut, Far, Crowd, Open}
use Rattle.proof_tree.specs.Regions.{Region}
use Rattle.proof_tree.specs.RatedBounds.{AreRatedPrices, IsRatedBound}
use Rattle.proof_tree.specs.Evidence.{ClosedByRouting, ClosedByOverfull, ClosedByCut, ClosedByFar, ClosedByCrowd}

-- the rates of cuts, which stand behind the prices of places
abbrev pub rates_in : Parts → List ℕ → List ℕ
rates_in p numbers = drop (places p) numbers

-- the numbers are prices of places, and behind them rates of cuts, as they have to be
abbrev pub AreLawfulNumbers : Parts → List LoadCut → List ℕ → Type 0
AreLawfulNumbers p cuts numbers = AreRatedPrices p cuts numbers (rates_in p numbers)

-- the bound at these prices and rates
abbrev pub IsBoundAt : Parts → List LoadCut → Region → List ℕ → ℤ → Type 0
IsBoundAt p cuts g numbers bound = IsRatedBound p cuts g numbers (rates_in p numbers) bound

-- the bound at these prices and rates is above the cost less the unit of costs
pub record ClosedByRatedBound (p : Parts) (cuts : List LoadCut) (g : Region) (numbers : List ℕ) (cost : ℕ) : Type 0 where
  pub lawful : AreLawfulNumbers p cuts numbers
  pub bound : ℤ
  pub is_bound : IsBoundAt p cuts g numbers bound
  pub unit : ℕ
  pub is_unit : IsUnit p unit
  pub enough : pos cost <ℤ (bound +ℤ pos unit)

-- the evidence of a leaf with this region, against the cost of the plan's design or none
abbrev pub HasRatedEvidence : Parts → List LoadCut → Option ℕ → Region → Evidence → Type 0
HasRatedEvidence p cuts cost g (Bound numbers) = IsSomeAnd cost (λ c. ClosedByRatedBound p cuts g numbers c)
HasRatedEvidence p cuts cost g Routed = IsSomeAnd cost (λ c. ClosedByRouting p g.forbidden c)
HasRatedEvidence p cuts cost g (Overfull link) = ClosedByOverfull p g link
HasRatedEvidence p cuts cost g (Cut demand reached) = ClosedByCut p g.forbidden demand reached
HasRatedEvidence p cuts cost g (Far demand) = ClosedByFar p g.forbidden demand
HasRatedEvidence p cuts cost g (Crowd prices) = ClosedByCrowd p g prices
HasRatedEvidence p cuts cost g (Open numbers) = AreLawfulNumbers p cuts numbers
