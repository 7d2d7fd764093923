-- What given loads cost.
use Rattle.std.specs.Prelude.{ℕ, ◌≡◌, ◌<◌, max, ◌⊎◌, [], List, length, slice_index}
use Rattle.plan_base.specs.declared.ids.ArcId.{ArcId}
use Rattle.plan_base.specs.declared.parts.Parts.{Parts}
use Rattle.plan_base.specs.declared.path.Design.{Design}
use Rattle.plan_base.specs.Sums.{sum_below}
use Rattle.plan_base.specs.Places.{there_of, back_of}
use Rattle.link_steps.specs.declared.range.LoadRange.{LoadRange}
use Rattle.link_steps.specs.declared.range.LinkRanges.{LinkRanges}
use Rattle.link_steps.specs.Costs.{IsStepCost, CannotCarry}
use Rattle.link_steps.specs.Ranges.{IsIn}
use Rattle.link_steps.specs.Values.{ranges_of_link}

-- the design of these paths that installs nothing
abbrev pub bare_design : List (List ArcId) → Design
bare_design paths = record { paths = paths; counts = [] }

-- the larger load of a link's places
abbrev pub needed : Parts → List ℕ → ℕ → ℕ
needed p loads e = max (there_of p (slice_index loads) e) (back_of p (slice_index loads) e)

-- the sum of the step costs of the links at these loads of places, in cost grains
pub record IsCostOfLoads (p : Parts) (loads : List ℕ) (total : ℕ) : Type 0 where
  pub step_costs : ℕ → ℕ
  pub are_costs : (e : ℕ) → e < length p.links → IsStepCost p e (there_of p (slice_index loads) e) (back_of p (slice_index loads) e) (step_costs e)
  pub is_sum : total ≡ sum_below step_costs (length p.links)

-- a link that cannot carry the larger load of its places
pub record HasOverfull (p : Parts) (loads : List ℕ) : Type 0 where
  pub link : ℕ
  pub within : link < length p.links
  pub overfull : CannotCarry p link (needed p loads link)

-- the loads of a link's places are in these ranges
abbrev pub AreIn : LinkRanges → ℕ → ℕ → Type 0
AreIn ranges load back = IsIn ranges.there load × IsIn ranges.back back

-- the loads of the places of the link of this number are in their ranges
abbrev pub AreLoadsInRange : Parts → List LoadRange → List ℕ → ℕ → Type 0
AreLoadsInRange p ranges loads e = AreIn (ranges_of_link p ranges e) (there_of p (slice_index loads) e) (back_of p (slice_index loads) e)

-- the link cannot carry the larger load of its places, or the load of a place of it is outside its range
abbrev pub IsOverloaded : Parts → List LoadRange → List ℕ → ℕ → Type 0
IsOverloaded p ranges loads e = CannotCarry p e (needed p loads e) ⊎ (AreLoadsInRange p ranges loads e → ⊥)
