-- What the least columns of the first demands put on a place, and the rows of loads.
use Rattle.std.proofs.Common.{◌≡◌, ℕ, ◌+◌, ◌<◌, ◌≤◌, ◌⊎◌, inl, inr, Bool, true, false, List, length, slice_index, set, if◌then◌else◌, refl, sym, subst, ◌∙◌, arith, add-one}
use Rattle.std.proofs.lemmas.List.{get_or-set_same, get_or-set_other}
use Rattle.plan_base.specs.declared.ids.ArcId.{ArcId}
use Rattle.plan_base.specs.declared.parts.Parts.{Parts}
use Rattle.plan_base.specs.declared.limits.TheConstants.{MAX_PLACES}
use Rattle.plan_base.specs.Facts.{total_load, IsInstance}
use Rattle.plan_base.specs.Sums.{sum_below}
use Rattle.plan_base.specs.Arcs.{demand_at}
use Rattle.plan_base.specs.Paths.{uses_place, IsSimplePath}
use Rattle.plan_base.specs.Walks.{HasPlacesOnce}
use Rattle.plan_base.proofs.SumsBelow.{sum_below-le}
use Rattle.plan_base.proofs.PlaceSums.{places-few}
use Rattle.plan_base.proofs.PathSums.{HasPlacesOnce-simple}
use Rattle.bound_assembly.proofs.SmallSums.{loads-le}
use Rattle.master_step.specs.Columns.{Choices, least_column}

-- what the least column of a demand puts on a place
abbrev pub put : Parts → Choices → List ℕ → ℕ → ℕ → ℕ
put p choices prices q k = if uses_place p q (least_column p prices (choices k)) then (demand_at p k).load else 0

put-le : (p : Parts) (choices : Choices) (prices : List ℕ) (q k : ℕ) → put p choices prices q k ≤ (demand_at p k).load
put-le p choices prices q k = by (uses_place p q (least_column p prices (choices k)))
  where
    by : (b : Bool) → (if b then (demand_at p k).load else 0) ≤ (demand_at p k).load
    by true = omega arith
    by false = omega arith

-- what the least columns of the first demands put on a place is at most the total load
pub puts-le : (p : Parts) (choices : Choices) (prices : List ℕ) (q n : ℕ) → n ≤ length p.demands → sum_below (put p choices prices q) n ≤ total_load p
puts-le p choices prices q n within =
    omega (arith, sum_below-le (put p choices prices q) (λ k. (demand_at p k).load) n (λ k below. put-le p choices prices q k), loads-le p n within)

-- one demand more
pub put-next : (p : Parts) (choices : Choices) (prices : List ℕ) (q n now before load : ℕ) (arcs : List ArcId) → before ≡ sum_below (put p choices prices q) n → arcs ≡ least_column p prices (choices n) → load ≡ (demand_at p n).load
    → now ≡ before + (if uses_place p q arcs then load else 0) → now ≡ sum_below (put p choices prices q) (n + 1)
put-next p choices prices q n now before load arcs is_before is_path is_load is_now =
    rw add-one (is_now ∙ rw (is_before, is_path, is_load) refl)

-- a simple path uses each of at most so many places once
pub places_once : (p : Parts) (k : ℕ) (arcs : List ArcId) → IsInstance p → IsSimplePath p (demand_at p k) arcs → HasPlacesOnce p MAX_PLACES arcs
places_once p k arcs inst simple =
    let h = HasPlacesOnce-simple p (demand_at p k) arcs simple in
    record { within = λ i below. omega (arith, h.within i below, places-few p inst); once = h.once }

either_way : (x y : ℕ) → (x ≤ y) ⊎ (y < x)
either_way x y = grind arith

-- what is so of each entry before a number is so of one more
pub row-next : (P : ℕ → ℕ → Type 0) (row : List ℕ) (n value : ℕ) → n < length row → ((e : ℕ) → e < n → P e (slice_index row e)) → P n value → (e : ℕ) → e < n + 1 → P e (slice_index (set row n value) e)
row-next P row n value within before here e below = elim (either_way n e) [
  | inl last ↦ (let is : e ≡ n = omega arith in subst (λ (i : ℕ). P i (slice_index (set row n value) i)) (sym is) (subst (P n) (sym (get_or-set_same row n value 0 within)) here))
  | inr less ↦ subst (P e) (sym (get_or-set_other row n e value 0 (λ same. absurd (omega arith)))) (before e less)
]
