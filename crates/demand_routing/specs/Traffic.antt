-- What places carry and what arcs weigh while demands are rerouted. No public contract cites it.
use Rattle.std.specs.Prelude.{ℕ, ◌≡◌, ◌<◌, ◌≤◌, ◌+◌, ◌*◌, ◌-◌, ◌/◌, ◌%◌, ◌^◌, min, max, ◌⊎◌, List, Option, Some, None, length, slice_index, slice_index_or, ◌==◌, sum_by, if◌then◌else◌}
use Rattle.std.specs.List.{count_by}
use Rattle.plan_base.specs.declared.ids.ArcId.{ArcId}
use Rattle.plan_base.specs.declared.parts.Parts.{Parts}
use Rattle.plan_base.specs.Places.{is_two_way, places, place_of, link_of_place, there_of, back_of}
use Rattle.plan_base.specs.Paths.{arc_at}
use Rattle.plan_base.specs.Facts.{total_load}
use Rattle.link_steps.specs.Costs.{CannotCarry, IsStepCost}
use Rattle.least_path.specs.Paths.{Weights}

-- the loads of places with a load more on one of them
abbrev pub with_more : (ℕ → ℕ) → ℕ → ℕ → ℕ → ℕ
with_more loads q load i = if i == q then loads i + load else loads i

-- what the other place of a place's link has, 0 where the link has one place
abbrev pub other_of : Parts → (ℕ → ℕ) → ℕ → ℕ
other_of p f q = if is_two_way p.orient then f (if q % 2 == 1 then q - 1 else q + 1) else 0

-- the larger load of a link's places
abbrev pub larger_of : Parts → (ℕ → ℕ) → ℕ → ℕ
larger_of p loads e = max (there_of p loads e) (back_of p loads e)

-- what the link of this number needs for these loads is above the total load, or no counts carry it
abbrev pub IsTooMuch : Parts → (ℕ → ℕ) → ℕ → Type 0
IsTooMuch p loads e = larger_of p loads e ≤ total_load p → CannotCarry p e (larger_of p loads e)

-- the step cost of a link for the loads of its places
abbrev pub IsCostOf : Parts → (ℕ → ℕ) → ℕ → ℕ → Type 0
IsCostOf p loads e cost = IsStepCost p e (there_of p loads e) (back_of p loads e) cost

-- the step costs of a place's link for what its places carry and with a load more on this one, which it can carry, differ by so much
pub record IsRise (p : Parts) (loads : ℕ → ℕ) (q load rise : ℕ) : Type 0 where
  pub before : ℕ
  pub after : ℕ
  pub within : larger_of p (with_more loads q load) (link_of_place p q) ≤ total_load p
  pub costs_before : IsCostOf p loads (link_of_place p q) before
  pub costs_after : IsCostOf p (with_more loads q load) (link_of_place p q) after
  pub is_rise : rise ≡ after - before

-- what the step cost of a place's link rises by where a load is added to the place; none where that is too much for the link
abbrev pub IsAddedCost : Parts → (ℕ → ℕ) → ℕ → ℕ → Option ℕ → Type 0
IsAddedCost p loads q load (Some rise) = IsRise p loads q load rise
IsAddedCost p loads q load None = IsTooMuch p (with_more loads q load) (link_of_place p q)

-- the place of the arc of this number
abbrev pub place_at : Parts → ℕ → ℕ
place_at p n = place_of p (record { 0 = n })

-- each arc of a place before a count weighs what its link's step cost rises by where a load is added to the place
abbrev pub AreAddedCosts : Parts → List ℕ → ℕ → ℕ → Weights → Type 0
AreAddedCosts p loads load count ws = (n : ℕ) → n < 2 * length p.links → place_at p n < count → IsAddedCost p (slice_index loads) (place_at p n) load (slice_index_or ws n None)

-- how far more load is looked at on a place: at most to the total load, in load grains
abbrev pub span_of : Parts → ℕ → ℕ → ℕ → ℕ
span_of p carried load far = min (carried + load + far) (total_load p) - carried

-- half of what a load adds, and half of its share of what a span of loads adds, in cost grains
abbrev pub halved : ℕ → ℕ → ℕ → ℕ → ℕ
halved rise beyond load span = rise / 2 + beyond / 131072 * (load * 65536 / span)

-- half of what the load adds, and half of its share of what the span adds, which is not nothing
pub record IsShared (p : Parts) (loads : ℕ → ℕ) (q load span weight : ℕ) : Type 0 where
  pub rise : ℕ
  pub beyond : ℕ
  pub is_rise : IsRise p loads q load rise
  pub is_beyond : IsRise p loads q span beyond
  pub positive : 0 < span
  pub is_weight : weight ≡ halved rise beyond load span

-- what the load adds alone, where the span is nothing or too much for the link
pub record IsAlone (p : Parts) (loads : ℕ → ℕ) (q load span weight : ℕ) : Type 0 where
  pub is_rise : IsRise p loads q load weight
  pub too_far : 0 < span → IsTooMuch p (with_more loads q span) (link_of_place p q)

-- what an arc weighs where far more load is looked at too; none where the load is too much for its link
unfoldable pub IsFarCost : Parts → (ℕ → ℕ) → ℕ → ℕ → ℕ → Option ℕ → Type 0
IsFarCost p loads q load far (Some weight) = IsShared p loads q load (span_of p (loads q) load far) weight ⊎ IsAlone p loads q load (span_of p (loads q) load far) weight
IsFarCost p loads q load far None = IsTooMuch p (with_more loads q load) (link_of_place p q)

-- each arc of a place before a count weighs so
abbrev pub AreFarCosts : Parts → List ℕ → ℕ → ℕ → ℕ → Weights → Type 0
AreFarCosts p loads load far count ws = (n : ℕ) → n < 2 * length p.links → place_at p n < count → IsFarCost p (slice_index loads) (place_at p n) load far (slice_index_or ws n None)

-- what the arcs of a path add one by one, in cost grains, and the sum of that up to a greatest number
pub record AreRises (p : Parts) (loads : List ℕ) (load : ℕ) (arcs : List ArcId) (most sum : ℕ) : Type 0 where
  pub rises : List ℕ
  pub count : length rises ≡ length arcs
  pub each : (i : ℕ) → i < length arcs → IsRise p (slice_index loads) (place_of p (arc_at arcs i)) load (slice_index rises i)
  pub is_sum : sum ≡ min (sum_by (λ rise. rise) rises) most

-- the load is too much for the link of an arc of a list, or there is no such link
pub record HasTooMuch (p : Parts) (loads : List ℕ) (load : ℕ) (arcs : List ArcId) : Type 0 where
  pub place : ℕ
  pub within : place < length arcs
  pub too_much : place_of p (arc_at arcs place) < places p
      → IsTooMuch p (with_more (slice_index loads) (place_of p (arc_at arcs place)) load) (link_of_place p (place_of p (arc_at arcs place)))

-- what the arcs of a path add together, in cost grains; none where the load is too much for the link of one of them
abbrev pub IsRiseAlong : Parts → List ℕ → ℕ → List ArcId → Option ℕ → Type 0
IsRiseAlong p loads load arcs (Some rise) = AreRises p loads load arcs (2 ^ 128 - 1) rise
IsRiseAlong p loads load arcs None = HasTooMuch p loads load arcs

-- how many arcs of a list are of this place
abbrev pub arcs_along : Parts → ℕ → List ArcId → ℕ
arcs_along p q arcs = count_by (λ a. place_of p a == q) arcs
