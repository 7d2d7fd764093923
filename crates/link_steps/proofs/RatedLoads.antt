-- What loads are worth at rates, and which load of a place is best there.
use Rattle.std.proofs.Common.{◌≡◌, ℕ, zero, suc, ◌+◌, ◌*◌, ◌<◌, ◌≤◌, inl, inr, min, max, List, length, take, refl, arith, add-one}
use Rattle.std.specs.List.{sum_by}
use Rattle.std.proofs.Math.Nat.{mul-le-mul_left}
use Rattle.std.proofs.lemmas.List.{take_all}
use Rattle.std.proofs.lemmas.List.Sums.{sum_by_more}
use Rattle.plan_base.specs.Sums.{sum_below}
use Rattle.plan_base.proofs.SumsBelow.{sum_below-le, sum_below-times}
use Rattle.link_steps.specs.declared.range.LoadRange.{LoadRange}
use Rattle.link_steps.specs.declared.rated.Rated.{Rated}
use Rattle.link_steps.specs.Candidates.{IsBestLoad, IsLeastCounted, CountFewer, IsCountedLoad}
use Rattle.link_steps.specs.Tallies.{part, no_rated, rated_at, worth, rate_total, AreTallies, CoversRouting}
use Rattle.link_steps.proofs.FirstLeast.{gap, strict-gap}
use Rattle.link_steps.proofs.Order.{either_way, before_or_last}
use Rattle.link_steps.proofs.TallyLaws.{part-rise, part-le}

-- Worths as sums over places.

-- what the grains that are counted at one place of the rates are worth
abbrev pub worth_of : List Rated → ℕ → ℕ → ℕ
worth_of rated load i = (rated_at rated i).rate * part (rated_at rated i).batch load

-- what all counted grains are worth
abbrev pub counted_worth : List Rated → ℕ → ℕ
counted_worth rated load = sum_below (worth_of rated load) (length rated)

taken : (f : Rated → ℕ) (rated : List Rated) (n : ℕ) → n ≤ length rated → sum_by f (take n rated) ≡ sum_below (λ i. f (rated_at rated i)) n
taken f rated zero within = refl
taken f rated (suc n) within =
    let more : sum_by f (take (suc n) rated) ≡ sum_by f (take n rated) + f (rated_at rated n) = rw (← add-one) (sum_by_more f rated n no_rated (omega arith)) in
    omega (arith, more, taken f rated n (omega arith))

all : (f : Rated → ℕ) (rated : List Rated) → sum_by f rated ≡ sum_below (λ i. f (rated_at rated i)) (length rated)
all f rated = rw (take_all (length rated) rated (omega arith)) at (taken f rated (length rated) (omega arith))

-- a load is worth its price and what all its counted grains are worth
pub worth-sum : (price : ℕ) (rated : List Rated) (load : ℕ) → worth price rated load ≡ price * load + counted_worth rated load
worth-sum price rated load = omega (arith, all (λ r. r.rate * part r.batch load) rated)

-- what the grains that are counted up to a place of the rates are worth is small
pub worth-before-small : (price : ℕ) (rated : List Rated) (load n : ℕ) → AreTallies rated → n ≤ length rated → price * load + sum_below (worth_of rated load) n ≤ (price + rate_total rated) * load
worth-before-small price rated load n tallies within =
    let each = sum_below-le (worth_of rated load) (λ i. load * (rated_at rated i).rate) n (λ i below. (let few = mul-le-mul_left (rated_at rated i).rate (part-le (rated_at rated i).batch load (tallies i (omega arith))) in omega (arith, few))) in
    let times = sum_below-times load (λ i. (rated_at rated i).rate) n in
    let part_of = sum_below-longer (λ i. (rated_at rated i).rate) n (length rated) within in
    let total = all (λ r. r.rate) rated in
    let some = mul-le-mul_left load part_of in
    rw total (omega (arith, each, times, some))
  where
    sum_below-longer : (f : ℕ → ℕ) (n m : ℕ) → n ≤ m → sum_below f n ≤ sum_below f m
    sum_below-longer f n zero le = (let same : n ≡ 0 = omega arith in rw same (omega arith))
    sum_below-longer f n (suc m) le =
        elim (either_way n m) [
          | inl earlier ↦ (let rest = sum_below-longer f n m earlier in omega (arith, rest))
          | inr last ↦ (let same : n ≡ suc m = omega arith in rw same (omega arith))
        ]

-- The least load of which as many grains are counted.

-- where a batch counts nothing less of a load
same-part : (rated : List Rated) (i load most x : ℕ) → AreTallies rated → i < length rated → load ≤ x → part (rated_at rated i).batch most ≤ part (rated_at rated i).batch load → part (rated_at rated i).batch most ≤ part (rated_at rated i).batch x
same-part rated i load most x tallies within le same = omega (arith, same, part-rise (rated_at rated i).batch load x (tallies i within) le)

-- one of one rate more
CountFewer-more : (rated : List Rated) (n load most : ℕ) → CountFewer rated n load most → CountFewer rated (n + 1) load most
CountFewer-more rated n load most fewer = record { place = fewer.place; within = omega (arith, fewer.within); positive = fewer.positive; fewer = fewer.fewer }

-- before the first rate, the least load of the range is the counted load
pub IsCountedLoad-none : (rated : List Rated) (least most : ℕ) → least ≤ most → IsCountedLoad rated least most 0 least
IsCountedLoad-none rated least most some = record { enough = omega arith; few = some; same = λ i below. absurd (omega arith); less = λ x enough below. absurd (omega arith) }

-- with one rate more, of which this is the least load
pub IsCountedLoad-next : (rated : List Rated) (least most n load own : ℕ) → AreTallies rated → n < length rated → ((rated_at rated n).rate ≡ 0 → own ≡ 0) → (0 < (rated_at rated n).rate → IsLeastCounted (rated_at rated n).batch most own)
    → IsCountedLoad rated least most n load → IsCountedLoad rated least most (n + 1) (max load own)
IsCountedLoad-next rated least most n load own tallies within none some before =
    record {
      enough = omega (arith, before.enough);
      few = elim (either_way (rated_at rated n).rate 0) [ inl free ↦ omega (arith, before.few, none (omega arith)) | inr paid ↦ omega (arith, before.few, (some paid).within) ];
      same = λ i below positive. elim (before_or_last i n below) [
        | inl old ↦ same-part rated i load most (max load own) tallies (omega arith) (omega arith) (before.same i old positive)
        | inr new ↦ rw new (same-part rated n own most (max load own) tallies within (omega arith) (let here = some (rw new at positive) in omega (arith, here.same)))
      ];
      less = λ x enough below. elim (either_way load x) [
        | inr old ↦ CountFewer-more rated n x most (before.less x enough old)
        | inl new ↦
            elim (either_way (rated_at rated n).rate 0) [
              | inl free ↦ absurd (omega (arith, below, new, none (omega arith)))
              | inr paid ↦ record { place = n; within = omega arith; positive = paid; fewer = (some paid).less x (omega arith) }
            ]
      ];
    }

-- The best load of a place.

-- where a term is less, and none is more, so is the sum
sum_below-less : (f g : ℕ → ℕ) (n k : ℕ) → k < n → ((i : ℕ) → i < n → f i ≤ g i) → f k < g k → sum_below f n < sum_below g n
sum_below-less f g zero k within no_more less = absurd (omega arith)
sum_below-less f g (suc n) k within no_more less =
    elim (either_way n k) [
      | inl last ↦
          (let same : k ≡ n = omega arith in
          let here : f n < g n = rw same at less in
          omega (arith, sum_below-le f g n (λ i below. no_more i (omega arith)), here))
      | inr before ↦ omega (arith, sum_below-less f g n k before (λ i below. no_more i (omega arith)) less, no_more n (omega arith))
    ]

module _ (routing price : ℕ) (rated : List Rated) (range : LoadRange) (reach : ℕ) (tallies : AreTallies rated) (some : range.least ≤ range.most) (reached : range.least ≤ reach) where
  counted-rise : (x y : ℕ) → x ≤ y → counted_worth rated x ≤ counted_worth rated y
  counted-rise x y le = sum_below-le (worth_of rated x) (worth_of rated y) (length rated) (λ i below. mul-le-mul_left (rated_at rated i).rate (part-rise (rated_at rated i).batch x y (tallies i below) le))

  -- where the price is above the routing costs, the greatest load is best
  pub best-greatest : 1000 * routing < price → IsBestLoad (1000 * routing) (worth price rated) range reach (min reach range.most)
  best-greatest dear =
      let top = min reach range.most in
      record {
        in_range = record { enough = omega arith; few = omega arith };
        reached = omega arith;
        no_more = λ x in_range le.
            (let few : x ≤ top = omega (arith, in_range.few, le) in
            omega (arith, gap (1000 * routing) price x top (omega arith) few, counted-rise x top few, worth-sum price rated x, worth-sum price rated top));
        less = λ x in_range le lt. omega (arith, strict-gap (1000 * routing) price x top dear lt, counted-rise x top (omega arith), worth-sum price rated x, worth-sum price rated top);
      }

  module _ (best : ℕ) (cheap : price ≤ 1000 * routing) (covers : CoversRouting routing price rated) (is : IsCountedLoad rated range.least (min reach range.most) (length rated) best) where
    -- the counted grains of no load up to the reach are worth more than at the counted load
    counted-most : (x : ℕ) → x ≤ min reach range.most → counted_worth rated x ≤ counted_worth rated best
    counted-most x le = sum_below-le (worth_of rated x) (worth_of rated best) (length rated) (λ i below. at_rate i below)
      where
        at_rate : (i : ℕ) → i < length rated → worth_of rated x i ≤ worth_of rated best i
        at_rate i below = elim (either_way (rated_at rated i).rate 0) [
          | inl free ↦ (let none : (rated_at rated i).rate ≡ 0 = omega arith in rw none (omega arith))
          | inr paid ↦ mul-le-mul_left (rated_at rated i).rate (let same = is.same i below paid in let rise = part-rise (rated_at rated i).batch x (min reach range.most) (tallies i below) le in omega (arith, same, rise))
        ]

    -- those of a smaller load less, and then the price is the routing costs
    counted-less : (x : ℕ) → range.least ≤ x → x < best → (counted_worth rated x < counted_worth rated best) × (price ≡ 1000 * routing)
    counted-less x enough below =
        let fewer = is.less x enough below in
        let i = fewer.place in
        let same = is.same i fewer.within fewer.positive in
        let less : worth_of rated x i < worth_of rated best i = product (rated_at rated i).rate (part (rated_at rated i).batch x) (part (rated_at rated i).batch best) fewer.positive (omega (arith, fewer.fewer, same)) in (
          sum_below-less (worth_of rated x) (worth_of rated best) (length rated) i fewer.within
              (λ j inside. mul-le-mul_left (rated_at rated j).rate (part-rise (rated_at rated j).batch x best (tallies j inside) (omega arith))) less,
          omega (arith, cheap, covers i fewer.within fewer.positive),
        )
      where
        product : (rate m n : ℕ) → 0 < rate → m < n → rate * m < rate * n
        product rate m n positive lt = (let all_of : rate * (m + 1) ≤ rate * n = mul-le-mul_left rate (let le : m + 1 ≤ n = omega arith in le) in omega (arith, all_of, positive))

    -- where the price is not above the routing costs, the counted load is best
    pub best-counted : IsBestLoad (1000 * routing) (worth price rated) range reach best
    best-counted = record {
      in_range = record { enough = is.enough; few = omega (arith, is.few) };
      reached = omega (arith, is.few);
      no_more = λ x in_range le. omega (arith, by_order x in_range.enough, counted-most x (omega (arith, in_range.few, le)), worth-sum price rated x, worth-sum price rated best);
      less = λ x in_range le lt.
          (let less = counted-less x in_range.enough lt in
          rw less.1 (omega (arith, less.0, worth-sum (1000 * routing) rated x, worth-sum (1000 * routing) rated best)));
    }
      where
        by_order : (x : ℕ) → range.least ≤ x → 1000 * routing * best + price * x ≤ 1000 * routing * x + price * best
        by_order x enough = elim (either_way best x) [
          | inl le ↦ (let more = gap price (1000 * routing) best x cheap le in omega (arith, more))
          | inr lt ↦ (let same = (counted-less x enough lt).1 in rw same (omega arith))
        ]
