-- Where the places of a link may have all loads, the best end of its steps gives its least value.
use Rattle.std.proofs.Common.{◌≡◌, ℕ, ◌+◌, ◌-◌, ◌*◌, ◌<◌, ◌≤◌, inl, inr, Bool, true, false, min, List, length, nat_lt, if◌then◌else◌, refl, sym, subst, ap, ◌∙◌, arith}
use Rattle.std.specs.Prelude.{ℤ, pos, ◌-ℤ◌, ◌≤ℤ◌, ◌<ℤ◌}
use Rattle.std.proofs.lemmas.Bool.{ltb-true, ltb-false}
use Rattle.std.proofs.lemmas.Int.{ints}
use Rattle.plan_base.specs.declared.parts.Link.{Link}
use Rattle.plan_base.specs.declared.parts.Parts.{Parts}
use Rattle.plan_base.specs.Arcs.{link_at}
use Rattle.plan_base.specs.Facts.{total_load, top_load}
use Rattle.plan_base.specs.Places.{is_two_way}
use Rattle.link_steps.specs.declared.ends.End.{End}
use Rattle.link_steps.specs.declared.range.LinkRanges.{LinkRanges}
use Rattle.link_steps.specs.declared.reading.LinkValue.{LinkValue}
use Rattle.link_steps.specs.declared.step.Step.{Step}
use Rattle.link_steps.specs.Ranges.{IsIn}
use Rattle.link_steps.specs.Values.{GiveValue, AreLinkRanges}
use Rattle.link_steps.specs.Steps.{step_at, AreAllSteps, IsBestEnd}
use Rattle.link_steps.specs.Candidates.{whole_link, load_up_to, candidate}
use Rattle.link_steps.proofs.Order.{either_way}
use Rattle.link_steps.proofs.Prices.{below-top}
use Rattle.link_steps.proofs.FirstBest.{IsBestValue, IsFirstBest-value, same-parts}
use Rattle.link_steps.proofs.FirstLeast.{AreMet}

difference-le : (a b c d : ℕ) → a + d ≤ c + b → (pos a -ℤ pos b) ≤ℤ (pos c -ℤ pos d)
difference-le a b c d h = omega (arith, ints)

difference-lt : (a b c d : ℕ) → a + d < c + b → (pos a -ℤ pos b) <ℤ (pos c -ℤ pos d)
difference-lt a b c d h = omega (arith, ints)

difference-same : (a b c d : ℕ) → a + d ≡ c + b → (pos a -ℤ pos b) ≡ (pos c -ℤ pos d)
difference-same a b c d h = omega (arith, ints)

-- the load of a place: the whole load where its price is above the routing costs, else none
pub record IsLoadAt (slope whole load : ℕ) : Type 0 where
  pub sloping : 0 < slope → load ≡ whole
  pub level : slope ≡ 0 → load ≡ 0

-- what is left of a price above the routing costs
abbrev pub IsSlope : ℕ → ℕ → ℕ → Type 0
IsSlope routing price slope = slope ≡ price - 1000 * routing

-- it is as much at the load of the place
place-same : (routing price slope load whole : ℕ) → IsSlope routing price slope → IsLoadAt slope whole load → price * load ≡ 1000 * (routing * load) + slope * whole
place-same routing price slope load whole is at =
    elim (either_way slope 0) [
      | inl none ↦
          (let level : slope ≡ 0 = omega arith in
          let no_load : load ≡ 0 = at.level level in
          rw (no_load, level) (omega arith))
      | inr some ↦
          (let whole_is : load ≡ whole = at.sloping some in
          let price_is : price ≡ 1000 * routing + slope = (let same : slope ≡ price - 1000 * routing = is in omega arith) in
          rw (whole_is, price_is) (omega arith))
    ]

-- At whole ranges the first of the least candidates is found at the best end.

-- the load of a place that may have all loads
load_up_to-whole : (l : Link) (price reach top : ℕ) → IsLoadAt (price - 1000 * l.routing) (min reach top) (load_up_to l price (record { least = 0; most = top }) reach)
load_up_to-whole l price reach top = by_cases (nat_lt (1000 * l.routing) price) refl
  where
    by_cases : (b : Bool) → nat_lt (1000 * l.routing) price ≡ b → IsLoadAt (price - 1000 * l.routing) (min reach top) (if b then min reach top else 0)
    by_cases true is = (let dear = ltb-true _ _ is in record { sloping = λ some. refl; level = λ none. absurd (omega (arith, dear, none)) })
    by_cases false is = (let cheap = ltb-false _ _ is in record { sloping = λ some. absurd (omega (arith, cheap, some)); level = λ none. refl })

-- one that has none, where it has no price
load_up_to-none : (l : Link) (price reach whole : ℕ) → price ≡ 0 → IsLoadAt (price - 1000 * l.routing) whole (load_up_to l price (record { least = 0; most = 0 }) reach)
load_up_to-none l price reach whole free =
    record {
      sloping = λ some. absurd (omega (arith, free, some));
      level = λ none. by_cases (nat_lt (1000 * l.routing) price);
    }
  where
    by_cases : (b : Bool) → (if b then min reach 0 else 0) ≡ 0
    by_cases true = omega arith
    by_cases false = refl

same-load : (slope whole one other : ℕ) → IsLoadAt slope whole one → IsLoadAt slope whole other → one ≡ other
same-load slope whole one other h k =
    elim (either_way slope 0) [
      | inl none ↦ (let level : slope ≡ 0 = omega arith in omega (arith, h.level level, k.level level))
      | inr some ↦ omega (arith, h.sloping some, k.sloping some)
    ]

zero-value : (cost : ℕ) → cost ≡ 0 → pos 0 ≡ (pos (1000 * cost) -ℤ pos 0)
zero-value cost none = rw none refl

above-zero : (n : ℕ) → pos 0 ≤ℤ (pos n -ℤ pos 0)
above-zero n = omega (arith, ints)

module _ (p : Parts) (e : ℕ) (price back_price : ℕ) (steps : List Step) (are : AreAllSteps p.law (total_load p) (link_at p e) steps) (one_way : is_two_way p.orient ≡ false → back_price ≡ 0) where
  -- what is left of the price above the routing costs
  abbrev pub slope : ℕ
  slope = price - 1000 * (link_at p e).routing

  -- what is left of the price of the place back above the routing costs
  abbrev pub back_slope : ℕ
  back_slope = back_price - 1000 * (link_at p e).routing

  -- the whole load at a step: as far as it reaches, but at most the top load
  abbrev pub whole : ℕ → ℕ
  whole i = min (step_at steps i).reach (top_load p (link_at p e))

  there-at : (i : ℕ) → IsLoadAt slope (whole i) (candidate (link_at p e) (whole_link p e) price back_price (step_at steps i)).load
  there-at i = load_up_to-whole (link_at p e) price (step_at steps i).reach (top_load p (link_at p e))

  back-at : (i : ℕ) → IsLoadAt back_slope (whole i) (candidate (link_at p e) (whole_link p e) price back_price (step_at steps i)).back
  back-at i = by_cases (is_two_way p.orient) one_way
    where
      by_cases : (b : Bool) → (b ≡ false → back_price ≡ 0) → IsLoadAt back_slope (whole i) (load_up_to (link_at p e) back_price (record { least = 0; most = if b then top_load p (link_at p e) else 0 }) (step_at steps i).reach)
      by_cases true free = load_up_to-whole (link_at p e) back_price (step_at steps i).reach (top_load p (link_at p e))
      by_cases false free = load_up_to-none (link_at p e) back_price (step_at steps i).reach (whole i) (free refl)

  candidate-value : (i : ℕ) → (candidate (link_at p e) (whole_link p e) price back_price (step_at steps i)).value ≡ (pos (1000 * (step_at steps i).cost) -ℤ pos ((slope + back_slope) * whole i))
  candidate-value i =
      let load = (candidate (link_at p e) (whole_link p e) price back_price (step_at steps i)).load in
      let back = (candidate (link_at p e) (whole_link p e) price back_price (step_at steps i)).back in
      let one = place-same (link_at p e).routing price slope load (whole i) refl (there-at i) in
      let other = place-same (link_at p e).routing back_price back_slope back (whole i) refl (back-at i) in
      difference-same (1000 * ((link_at p e).routing * (load + back) + (step_at steps i).cost)) (price * load + back_price * back) (1000 * (step_at steps i).cost) ((slope + back_slope) * whole i) (omega arith)

  ends-value : (i : ℕ) (best : End) → best.cost ≡ (step_at steps i).cost → best.load ≡ whole i → (pos (1000 * best.cost) -ℤ pos ((slope + back_slope) * best.load)) ≡ (candidate (link_at p e) (whole_link p e) price back_price (step_at steps i)).value
  ends-value i best cost_is load_is =
      ap (λ (c : ℕ). pos (1000 * c) -ℤ pos ((slope + back_slope) * best.load)) cost_is ∙ ap (λ (x : ℕ). pos (1000 * (step_at steps i).cost) -ℤ pos ((slope + back_slope) * x)) load_is ∙ sym (candidate-value i)

  whole-met : AreMet steps (whole_link p e) 0 (length steps)
  whole-met = record {
    before = λ j below. absurd (omega arith);
    reached = λ i enough below. omega arith;
    within = omega arith;
    all = λ load i few reaching. reaching.within;
  }

  whole-in_ranges : AreLinkRanges p e (whole_link p e)
  whole-in_ranges = record { there = record { some = omega arith; carried = omega arith }; other = record { some = omega arith; carried = omega arith } }

  -- so the best end gives the least value
  pub best_end-value : (best : End) (load back : ℕ) → IsBestEnd steps (top_load p (link_at p e)) (slope + back_slope) best → IsLoadAt slope best.load load → IsLoadAt back_slope best.load back
      → IsBestValue p e (whole_link p e) price back_price (record { value = pos (1000 * best.cost) -ℤ pos ((slope + back_slope) * best.load); load = load; back = back })
  best_end-value best load back is_best at at_back =
      let place = is_best.is_end_of.place in
      let cost_is : best.cost ≡ (step_at steps place).cost = is_best.is_end_of.cost in
      let load_is : best.load ≡ whole place = is_best.is_end_of.load in
      let there_is = same-load slope (whole place) load (candidate (link_at p e) (whole_link p e) price back_price (step_at steps place)).load (rw load_is at at) (there-at place) in
      let back_is = same-load back_slope (whole place) back (candidate (link_at p e) (whole_link p e) price back_price (step_at steps place)).back (rw load_is at at_back) (back-at place) in
      IsFirstBest-value p e (whole_link p e) price back_price steps 0 (length steps) _ are whole-in_ranges whole-met
      (record {
        place = place;
        enough = omega arith;
        below = is_best.is_end_of.within;
        is = same-parts _ _ load back _ _ (ends-value place best cost_is load_is) there_is back_is;
        least = λ i enough below. subst (λ (v : ℤ). (pos (1000 * best.cost) -ℤ pos ((slope + back_slope) * best.load)) ≤ℤ v) (sym (candidate-value i))
            (difference-le (1000 * best.cost) ((slope + back_slope) * best.load) (1000 * (step_at steps i).cost) ((slope + back_slope) * whole i) (is_best.outdoes i below).no_more);
        first = λ i enough before.
            (let nearer : whole i < best.load = omega (arith, load_is, below-top p (link_at p e) steps place i are.are_steps before is_best.is_end_of.within, are.are_steps.in_order.rising i place before is_best.is_end_of.within) in
            subst (λ (v : ℤ). (pos (1000 * best.cost) -ℤ pos ((slope + back_slope) * best.load)) <ℤ v) (sym (candidate-value i))
            (difference-lt (1000 * best.cost) ((slope + back_slope) * best.load) (1000 * (step_at steps i).cost) ((slope + back_slope) * whole i) ((is_best.outdoes i (omega (arith, before, is_best.is_end_of.within))).less nearer)));
      })

  -- where no price is above the routing costs, carrying nothing is best
  pub nothing-value : slope + back_slope ≡ 0 → IsBestValue p e (whole_link p e) price back_price (record { value = pos 0; load = 0; back = 0 })
  nothing-value level =
      let there_is = (there-at 0).level (omega (arith, level)) in
      let back_is = (back-at 0).level (omega (arith, level)) in
      let value : (i : ℕ) → (candidate (link_at p e) (whole_link p e) price back_price (step_at steps i)).value ≡ (pos (1000 * (step_at steps i).cost) -ℤ pos 0) =
      λ i. (let none : (slope + back_slope) * whole i ≡ 0 = rw level (omega arith) in candidate-value i ∙ ap (λ (n : ℕ). pos (1000 * (step_at steps i).cost) -ℤ pos n) none) in
      IsFirstBest-value p e (whole_link p e) price back_price steps 0 (length steps) _ are whole-in_ranges whole-met
      (record {
        place = 0;
        enough = omega arith;
        below = are.are_steps.in_order.some;
        is = same-parts _ _ 0 0 _ _ (zero-value (step_at steps 0).cost are.are_steps.no_cost ∙ sym (value 0)) (sym there_is) (sym back_is);
        least = λ i enough below. subst (λ (v : ℤ). pos 0 ≤ℤ v) (sym (value i)) (above-zero (1000 * (step_at steps i).cost));
        first = λ i enough before. absurd (omega arith);
      })

-- Where the best loads of whole ranges are in smaller ranges, they are best there too.
module _ (p : Parts) (e : ℕ) (ranges : LinkRanges) (price back_price : ℕ) (in_ranges : AreLinkRanges p e ranges) where
  whole-give : (value : ℤ) (x y : ℕ) → GiveValue p e ranges price back_price value x y → GiveValue p e (whole_link p e) price back_price value x y
  whole-give value x y give = record {
    in_range = record { enough = omega arith; few = omega (arith, give.in_range.few, in_ranges.there.carried) };
    back_in_range = record { enough = omega arith; few = omega (arith, give.back_in_range.few, in_ranges.other.carried) };
    cost = give.cost;
    is_cost = give.is_cost;
    attained = give.attained;
  }

  -- the best value of whole ranges is best in smaller ranges too, where they have its loads
  pub best-within : (best : LinkValue) → IsIn ranges.there best.load → IsIn ranges.back best.back → IsBestValue p e (whole_link p e) price back_price best → IsBestValue p e ranges price back_price best
  best-within best there back is =
      let give : GiveValue p e ranges price back_price best.value best.load best.back = record { in_range = there; back_in_range = back; cost = is.loads.give.cost; is_cost = is.loads.give.is_cost; attained = is.loads.give.attained } in
      record {
        value = record {
          load = best.load;
          back = best.back;
          give = give;
          least = λ x y c in_x in_y is_cost. is.value.least x y c (record { enough = omega arith; few = omega (arith, in_x.few, in_ranges.there.carried) }) (record { enough = omega arith; few = omega (arith, in_y.few, in_ranges.other.carried) }) is_cost;
        };
        loads = record {
          give = give;
          larger = λ x y other. is.loads.larger x y (whole-give best.value x y other);
          each = λ x y other same. is.loads.each x y (whole-give best.value x y other) same;
        };
      }
