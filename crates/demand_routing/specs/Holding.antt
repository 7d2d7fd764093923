-- Step costs that are held beside links, with the loads that they are of.
use Rattle.std.specs.Prelude.{ℕ, ◌≡◌, ◌<◌, ◌≤◌, min, max, true, List, length, slice_index_or}
use Rattle.plan_base.specs.declared.parts.Parts.{Parts}
use Rattle.plan_base.specs.Facts.{total_load}
use Rattle.plan_base.specs.Places.{link_of_place}
use Rattle.link_steps.specs.Costs.{IsStepCost}
use Rattle.demand_routing.specs.declared.weights.Held.{Held}
use Rattle.demand_routing.specs.declared.weights.Known.{Known}
use Rattle.demand_routing.specs.declared.weights.Sides.{Sides}
use Rattle.demand_routing.specs.Traffic.{other_of}

-- what a place and the other place of its link have
pub record AreSides (p : Parts) (f : ℕ → ℕ) (q : ℕ) (s : Sides) : Type 0 where
  pub here : s.here ≡ f q
  pub other : s.other ≡ other_of p f q

-- the step cost of a link whose places carry this
abbrev pub IsCostOfSides : Parts → ℕ → Sides → ℕ → Type 0
IsCostOfSides p e s cost = IsStepCost p e (max s.here s.other) (min s.here s.other) cost

-- the step cost of a link for these loads, which are at most the total load
pub record IsCostHeld (p : Parts) (e : ℕ) (h : Held) : Type 0 where
  pub order : h.smaller ≤ h.larger
  pub within : h.larger ≤ total_load p
  pub cost : IsStepCost p e h.larger h.smaller h.cost

-- what is held for a link is its step cost, where something is held
abbrev pub IsHeld : Parts → ℕ → Held → Type 0
IsHeld p e h = h.known ≡ true → IsCostHeld p e h

-- so for each link
abbrev pub AreHeld : Parts → List Held → Type 0
AreHeld p helds = (e : ℕ) (other : Held) → e < length helds → IsHeld p e (slice_index_or helds e other)

-- the link of a place, what its places carry, at most the total load each, and the step cost of that
pub record IsKnown (p : Parts) (f : ℕ → ℕ) (k : Known) : Type 0 where
  pub link : k.link.0 ≡ link_of_place p k.place
  pub exists : k.link.0 < length p.links
  pub sides : AreSides p f k.place k.sides
  pub within : max k.sides.here k.sides.other ≤ total_load p
  pub cost : IsCostOfSides p (link_of_place p k.place) k.sides k.cost
