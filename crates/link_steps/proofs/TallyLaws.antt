-- A tally is at most its argument, never falls, and that of a sum is at most the tallies' sum.
use Rattle.std.proofs.Common.{◌≡◌, ℕ, suc, ◌+◌, ◌-◌, ◌*◌, ◌/◌, ◌%◌, ◌<◌, ◌≤◌, inl, inr, min, refl, sym, ap, ◌∙◌, arith}
use Rattle.std.proofs.lemmas.Nat.{mod_below, div-add-mod', div-mul-add}
use Rattle.std.proofs.Math.Nat.{mul-le-mul_left, mul-le-mul_right}
use Rattle.link_steps.specs.declared.batch.Batch.{Batch}
use Rattle.link_steps.specs.Candidates.{IsLeastCounted}
use Rattle.link_steps.specs.Tallies.{tally, IsTally, part}
use Rattle.link_steps.proofs.Order.{either_way}

-- whole periods and a rest
record Periods (period n : ℕ) : Type 0 where
  whole : ℕ
  rest : ℕ
  is : n ≡ whole * period + rest
  below : rest < period

periods : (period n : ℕ) → 0 < period → Periods period n
periods period n positive = record { whole = n / period; rest = n % period; is = (let parts = div-add-mod' n period in omega (arith, parts)); below = mod_below n period positive }

tally-at : (period first n a b : ℕ) → n ≡ a * period + b → b < period → tally period first n ≡ first * a + min first b
tally-at period first n a b is below =
    let whole : n / period ≡ a = rw is (div-mul-add a period b below) in
    let parts : n / period * period + n % period ≡ n = div-add-mod' n period in
    let parts_too : a * period + n % period ≡ n = ap (λ (m : ℕ). m * period + n % period) (sym whole) ∙ parts in
    let rest : n % period ≡ b = omega (arith, is, parts_too) in
    rw (whole, rest) refl

-- it is at most its argument
pub tally-le : (period first x : ℕ) → IsTally period first → tally period first x ≤ x
tally-le period first x is =
    let parts = div-add-mod' x period in
    let whole = mul-le-mul_left (x / period) is.within in
    omega (arith, parts, whole)

-- it never falls
pub tally-rise : (period first x y : ℕ) → IsTally period first → x ≤ y → tally period first x ≤ tally period first y
tally-rise period first x y is_tally le =
    let positive : 0 < period = omega (arith, is_tally.some, is_tally.within) in
    let one = periods period x positive in
    let two = periods period y positive in
    let at_one = tally-at period first x one.whole one.rest one.is one.below in
    let at_two = tally-at period first y two.whole two.rest two.is two.below in
    let same = by_wholes one.whole one.rest two.whole two.rest (let is_one = one.is in let is_two = two.is in omega (arith, is_one, is_two, le)) one.below two.below in
    omega (arith, at_one, at_two, same)
  where
    by_wholes : (a b c d : ℕ) → a * period + b ≤ c * period + d → b < period → d < period → first * a + min first b ≤ first * c + min first d
    by_wholes a b c d le below other_below = elim (either_way c a) [
      | inl not_more ↦ elim (either_way a c) [
        | inl same ↦ (let is : a ≡ c = omega arith in let rest : b ≤ d = omega (arith, rw is at le) in rw is (omega (arith, rest)))
        | inr more ↦ absurd (let next : suc c ≤ a = omega arith in let far = mul-le-mul_right period next in omega (arith, far, le, other_below))
      ]
      | inr less ↦ (let next : suc a ≤ c = omega arith in let far = mul-le-mul_left first next in omega (arith, far))
    ]

-- it is subadditive
pub tally-plus : (period first x y : ℕ) → IsTally period first → tally period first (x + y) ≤ tally period first x + tally period first y
tally-plus period first x y is_tally =
    let within = is_tally.within in
    let positive : 0 < period = omega (arith, is_tally.some, within) in
    let one = periods period x positive in
    let two = periods period y positive in
    let at_one = tally-at period first x one.whole one.rest one.is one.below in
    let at_two = tally-at period first y two.whole two.rest two.is two.below in
    let is_one = one.is in
    let is_two = two.is in
    let below_one = one.below in
    let below_two = two.below in
    elim (either_way period (one.rest + two.rest)) [
      | inl over ↦
          (let both = tally-at period first (x + y) (suc (one.whole + two.whole)) (one.rest + two.rest - period) (omega (arith, is_one, is_two, over)) (omega (arith, below_one, below_two, over)) in
          let rests = over_period first one.rest two.rest period within over below_one below_two in
          omega (arith, both, at_one, at_two, rests))
      | inr under ↦
          (let both = tally-at period first (x + y) (one.whole + two.whole) (one.rest + two.rest) (omega (arith, is_one, is_two)) under in
          omega (arith, both, at_one, at_two))
    ]
  where
    over_period : (f b d c : ℕ) → f ≤ c → c ≤ b + d → b < c → d < c → f + min f (b + d - c) ≤ min f b + min f d
    over_period f b d c within over below other_below = omega arith

-- of no load nothing is counted
tally-none : (period first : ℕ) → IsTally period first → tally period first 0 ≡ 0
tally-none period first is_tally = (let le = tally-le period first 0 is_tally in omega (arith, le))

-- more of a load counts no less
pub part-rise : (b : Batch) (x y : ℕ) → IsTally b.period b.first → x ≤ y → part b x ≤ part b y
part-rise b x y is_tally le = tally-rise b.period b.first (min (x - b.before) b.rest) (min (y - b.before) b.rest) is_tally (omega arith)

-- and at most all
pub part-le : (b : Batch) (x : ℕ) → IsTally b.period b.first → part b x ≤ x
part-le b x is_tally = (let le = tally-le b.period b.first (min (x - b.before) b.rest) is_tally in omega (arith, le))

-- The least load of which so many grains are counted.

-- after whole periods and some of the first grains of one more all these are counted
record AreCounted (period first n : ℕ) : Type 0 where
  before : tally period first (n / first * period + n % first) ≡ n
  past : tally period first (n / first * period + n % first + 1) ≡ n + 1

counted-at : (period first n : ℕ) → IsTally period first → AreCounted period first n
counted-at period first n is_tally =
    let some = is_tally.some in
    let within = is_tally.within in
    let parts = div-add-mod' n first in
    let below : n % first < first = mod_below n first (omega (arith, some)) in
    let here = tally-at period first (n / first * period + n % first) (n / first) (n % first) refl (omega (arith, below, within)) in
    record {
      before = omega (arith, here, parts, below);
      past = elim (either_way period (n % first + 1)) [
        | inr inside ↦
            (let next = tally-at period first (n / first * period + n % first + 1) (n / first) (n % first + 1) (omega arith) inside in
            omega (arith, next, parts, below))
        | inl whole ↦
            (let next = tally-at period first (n / first * period + n % first + 1) (suc (n / first)) 0 (omega (arith, whole, below, within)) (omega (arith, some, within)) in
            omega (arith, next, parts, whole, below, within))
      ];
    }

-- how far the last counted grain stands past what is not counted
abbrev end_of_count : Batch → ℕ → ℕ
end_of_count b n = n / b.first * b.period + n % b.first + 1

-- it is within the load
end-within : (b : Batch) (load n : ℕ) → IsTally b.period b.first → part b load ≡ n + 1 → end_of_count b n ≤ min (load - b.before) b.rest
end-within b load n is_tally is =
    elim (either_way (end_of_count b n) (min (load - b.before) b.rest)) [
      | inl le ↦ le
      | inr lt ↦
          (let counted = counted-at b.period b.first n is_tally in
          let rise = tally-rise b.period b.first (min (load - b.before) b.rest) (n / b.first * b.period + n % b.first) is_tally (omega arith) in
          absurd (omega (arith, rise, counted.before, is)))
    ]

least-some : (b : Batch) (load n : ℕ) → IsTally b.period b.first → part b load ≡ n + 1 → IsLeastCounted b load (b.before + end_of_count b n)
least-some b load n is_tally is =
    let end = end-within b load n is_tally is in
    let counted = counted-at b.period b.first n is_tally in
    let grains : min (b.before + end_of_count b n - b.before) b.rest ≡ end_of_count b n = omega (arith, end) in
    record {
      within = omega (arith, end);
      same = ap (tally b.period b.first) grains ∙ counted.past ∙ sym is;
      less = λ x below.
          (let rise = tally-rise b.period b.first (min (x - b.before) b.rest) (n / b.first * b.period + n % b.first) is_tally (omega arith) in
          omega (arith, rise, counted.before, is));
    }

-- where some grains are counted, past what is not counted the least load ends with the last of them
pub least-counted : (b : Batch) (load count : ℕ) → IsTally b.period b.first → count ≡ part b load → 0 < count → IsLeastCounted b load (b.before + (count - 1) / b.first * b.period + (count - 1) % b.first + 1)
least-counted b load count is_tally is some =
    let least = least-some b load (count - 1) is_tally (omega (arith, is, some)) in
    let same : b.before + end_of_count b (count - 1) ≡ b.before + (count - 1) / b.first * b.period + (count - 1) % b.first + 1 = omega arith in
    rw same at least
