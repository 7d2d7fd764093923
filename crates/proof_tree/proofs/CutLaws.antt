-- Over the places that cross it a cut counts at least the tally of its rest, in each design.
use Rattle.std.proofs.Common.{◌≡◌, ℕ, zero, suc, ◌+◌, ◌-◌, ◌≤◌, min, Bool, true, false, if◌then◌else◌, refl, ap, ◌∙◌, arith}
use Rattle.plan_base.specs.declared.parts.Parts.{Parts}
use Rattle.plan_base.specs.declared.path.Design.{Design}
use Rattle.plan_base.specs.Sums.{sum_below}
use Rattle.plan_base.specs.Places.{places}
use Rattle.plan_base.specs.Designs.{load_at}
use Rattle.plan_base.proofs.SumsBelow.{sum_below-same, sum_below-le, sum_below-plus}
use Rattle.link_steps.specs.Tallies.{tally, IsTally}
use Rattle.link_steps.proofs.TallyLaws.{tally-le, tally-rise, tally-plus}
use Rattle.proof_tree.specs.declared.cuts.Cut.{Cut}
use Rattle.proof_tree.specs.Cuts.{place_crosses, before_at, rest_of, counted_at, least_count}
use Rattle.proof_tree.proofs.Crossings.{HasSimplePaths, crossing_load-le}

-- of no load nothing is counted
tally-none : (period first : ℕ) → IsTally period first → tally period first 0 ≡ 0
tally-none period first is = omega (arith, tally-le period first 0 is)

tally-sum : (period first : ℕ) (f : ℕ → ℕ) (n : ℕ) → IsTally period first → tally period first (sum_below f n) ≤ sum_below (λ q. tally period first (f q)) n
tally-sum period first f zero is = omega (arith, tally-none period first is)
tally-sum period first f (suc n) is = omega (arith, tally-plus period first (sum_below f n) (f n) is, tally-sum period first f n is)

min-sum : (f : ℕ → ℕ) (top n : ℕ) → min (sum_below f n) top ≤ sum_below (λ q. min (f q) top) n
min-sum f top zero = omega arith
min-sum f top (suc n) = omega (arith, min-sum f top n)

-- what a place that crosses the cut carries beyond what is left out
abbrev beyond : Parts → Cut → Design → ℕ → ℕ
beyond p cut d q = if place_crosses p cut.nodes q then load_at p d q - before_at p cut q else 0

rest-le : (p : Parts) (cut : Cut) (d : Design) → HasSimplePaths p d → rest_of p cut ≤ sum_below (beyond p cut d) (places p)
rest-le p cut d simple =
    let n = places p in
    let before = λ (q : ℕ). if place_crosses p cut.nodes q then before_at p cut q else 0 in
    let each = sum_below-le (λ q. if place_crosses p cut.nodes q then load_at p d q else 0) (λ q. before q + beyond p cut d q) n (λ q below. at_place (load_at p d q) (before_at p cut q) (place_crosses p cut.nodes q)) in
    let plus = sum_below-plus before (beyond p cut d) n in
    let crossing = crossing_load-le p cut.nodes d simple in
    omega (arith, each, plus, crossing)
  where
    at_place : (load free : ℕ) (b : Bool) → (if b then load else 0) ≤ (if b then free else 0) + (if b then load - free else 0)
    at_place load free true = omega arith
    at_place load free false = omega arith

-- The cut's inequality.
pub cut-holds : (p : Parts) (cut : Cut) (d : Design) → IsTally cut.period cut.first → HasSimplePaths p d → least_count p cut ≤ sum_below (λ q. counted_at p cut q (load_at p d q)) (places p)
cut-holds p cut d is simple =
    let n = places p in
    let top = rest_of p cut in
    let taken = λ (q : ℕ). min (beyond p cut d q) top in
    let whole : top ≤ sum_below taken n = omega (arith, rest-le p cut d simple, min-sum (beyond p cut d) top n) in
    let rise = tally-rise cut.period cut.first top (sum_below taken n) is whole in
    let sum = tally-sum cut.period cut.first taken n is in
    let same = sum_below-same (λ q. tally cut.period cut.first (taken q)) (λ q. counted_at p cut q (load_at p d q)) n (λ q below. at_place (load_at p d q) (before_at p cut q) (rest_of p cut) (place_crosses p cut.nodes q)) in
    omega (arith, rise, sum, same)
  where
    at_place : (load free top : ℕ) (b : Bool) → tally cut.period cut.first (min (if b then load - free else 0) top) ≡ (if b then tally cut.period cut.first (min (load - free) top) else 0)
    at_place load free top true = refl
    at_place load free top false = (let none : min 0 top ≡ 0 = omega arith in ap (tally cut.period cut.first) none ∙ tally-none cut.period cut.first is)
