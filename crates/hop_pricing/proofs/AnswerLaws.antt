-- Answers that are right: none is within a limit below the fewest arcs, and two of them are the same.
use Rattle.std.proofs.Common.{◌≡◌, ℕ, ◌≤◌, ◌<◌, ◌↔◌, ◌⊎◌, inl, inr, List, Option, Some, None, refl, ap, arith}
use Rattle.plan_base.specs.declared.ids.ArcId.{ArcId}
use Rattle.plan_base.specs.declared.parts.Parts.{Parts}
use Rattle.arc_restrict.specs.Restrictions.{Forbidden, IsFewest}
use Rattle.hop_pricing.specs.declared.within.Within.{Within}
use Rattle.hop_pricing.specs.declared.within.Within.TheVariants.{Path, Far}
use Rattle.hop_pricing.specs.Within.{IsLeastWithin, HasNoneWithin, AreFewest, IsFoundWithin, IsSameAnswer}

lt_or_ge : (a b : ℕ) → (a < b) ⊎ (b ≤ a)
lt_or_ge a b = grind arith

-- none is within a limit exactly where the fewest arcs are above it
pub above : (p : Parts) (r : Forbidden) (k arcs hops : ℕ) → IsFewest p r k arcs → HasNoneWithin p r k hops ↔ (hops < arcs)
above p r k arcs hops h = (
  λ none. elim (lt_or_ge hops arcs) [
    | inl below ↦ below
    | inr within ↦ absurd (none h.path (record { permitted = h.permitted; short = omega (arith, h.attained, within) }))
  ],
  λ below path within.
      let more = h.least path within.permitted in
      absurd (let bad : ⊥ = omega (arith, below, more, within.short) in bad),
)

-- the fewest arcs are one number
same-fewest : (p : Parts) (r : Forbidden) (k : ℕ) (one other : Option ℕ) → AreFewest p r k one → AreFewest p r k other → one ≡ other
same-fewest p r k None None h i = refl
same-fewest p r k None (Some m) h i = absurd (h i.path i.permitted)
same-fewest p r k (Some n) None h i = absurd (i h.path h.permitted)
same-fewest p r k (Some n) (Some m) h i =
    let le = h.least i.path i.permitted in
    let ge = i.least h.path h.permitted in
    let same : n ≡ m = omega (arith, le, ge, h.attained, i.attained) in
    ap Some same

-- so are the least prices within a limit
same-price : (p : Parts) (r : Forbidden) (prices : List ℕ) (k hops : ℕ) (one other : List ArcId) (price other_price : ℕ) → IsLeastWithin p r prices k hops one price → IsLeastWithin p r prices k hops other other_price → price ≡ other_price
same-price p r prices k hops one other price other_price h i =
    let le = h.least other i.within in
    let ge = i.least one h.within in
    omega (arith, le, ge, h.price_is, i.price_is)

-- two right answers are the same
pub same-answer : (p : Parts) (r : Forbidden) (prices : List ℕ) (k hops : ℕ) (one other : Within) → IsFoundWithin p r prices k hops one → IsFoundWithin p r prices k hops other → IsSameAnswer one other
same-answer p r prices k hops (Path one price) (Path other other_price) h i = same-price p r prices k hops one other price other_price h i
same-answer p r prices k hops (Path one price) (Far fewest) h i = absurd (i.0 one h.within)
same-answer p r prices k hops (Far fewest) (Path other price) h i = absurd (h.0 other i.within)
same-answer p r prices k hops (Far one) (Far other) h i = same-fewest p r k one other h.1 i.1
