-- A bound with rates is not absent where each range has a load and each demand a permitted path.
use Rattle.std.proofs.Common.{◌≡◌, ℕ, ◌+◌, ◌-◌, ◌*◌, ◌<◌, ◌≤◌, max, Bool, true, false, List, [], length, slice_index, if◌then◌else◌, refl, arith}
use Rattle.std.specs.Prelude.{ℤ, pos, ◌+ℤ◌, ◌-ℤ◌, ◌≤ℤ◌}
use Rattle.std.proofs.lemmas.Int.{ints}
use Rattle.plan_base.specs.declared.ids.ArcId.{ArcId}
use Rattle.plan_base.specs.declared.parts.Parts.{Parts}
use Rattle.plan_base.specs.Arcs.{link_at}
use Rattle.plan_base.specs.Places.{is_two_way, there_of, back_of}
use Rattle.plan_base.specs.Sums.{int_sum_below}
use Rattle.link_steps.specs.declared.rated.Rated.{Rated}
use Rattle.link_steps.specs.declared.range.LinkRanges.{LinkRanges}
use Rattle.link_steps.specs.Costs.{IsStepCost}
use Rattle.link_steps.specs.Ranges.{AreRanges, IsIn}
use Rattle.link_steps.specs.Tallies.{worth}
use Rattle.link_steps.specs.Values.{ranges_of_link, AreLinkRanges}
use Rattle.link_steps.specs.WorthValues.{net_value, IsWorthValue}
use Rattle.link_steps.proofs.Least.{least_not_absent}
use Rattle.link_steps.proofs.Carrying.{top-can_carry}
use Rattle.link_steps.proofs.LeastCosts.{least_cost-exists}
use Rattle.link_steps.proofs.WholeRanges.{ranges_of-link}
use Rattle.arc_restrict.specs.Restrictions.{IsPermittedPath}
use Rattle.arc_restrict.specs.Prices.{IsLeastPrice}
use Rattle.proof_tree.specs.declared.cuts.Cut.{Cut}
use Rattle.proof_tree.specs.Cuts.{AreCuts}
use Rattle.proof_tree.specs.Regions.{Region}
use Rattle.proof_tree.specs.Bounds.{price_total}
use Rattle.proof_tree.specs.RatedBounds.{rated_there, rated_back, rated_on, IsRatedValue, cut_total, IsRatedBound}
use Rattle.proof_tree.proofs.Presence.{all_not_absent, least_price-not_absent, least-le-top, thousandth}
use Rattle.proof_tree.proofs.RatedWorths.{worth-rise}

-- more load is worth at least as much
abbrev pub Rises : (ℕ → ℕ) → Type 0
Rises f = (x y : ℕ) → x ≤ y → f x ≤ f y

-- loads of a link's places with their step cost
record LoadCost : Type 0 where
  load : ℕ
  back : ℕ
  cost : ℕ

record IsLoadCost (p : Parts) (e : ℕ) (ranges : LinkRanges) (x : LoadCost) : Type 0 where
  in_range : IsIn ranges.there x.load
  back_in_range : IsIn ranges.back x.back
  is_cost : IsStepCost p e x.load x.back x.cost

-- what is left of the most that loads are worth
left-le : (cost worth other other_worth top : ℕ) → worth ≤ top → other_worth ≤ top → 1000 * cost + (top - worth) ≤ 1000 * other + (top - other_worth) → (pos (1000 * cost) -ℤ pos worth) ≤ℤ (pos (1000 * other) -ℤ pos other_worth)
left-le cost worth other other_worth top below other_below le =
    let one : (top - worth) + worth ≡ top = omega arith in
    let two : (top - other_worth) + other_worth ≡ top = omega arith in
    restated (1000 * cost) worth (1000 * other) other_worth (top - worth) (top - other_worth) (omega (arith, one, two)) le
  where
    restated : (c w o v x y : ℕ) → x + w ≡ y + v → c + x ≤ o + y → (pos c -ℤ pos w) ≤ℤ (pos o -ℤ pos v)
    restated c w o v x y same le = omega (arith, ints)

worth_value-not_absent : (p : Parts) (e : ℕ) (ranges : LinkRanges) (price : ℕ) (rated : List Rated) (back_price : ℕ) (back_rated : List Rated) → AreLinkRanges p e ranges → Rises (worth price rated) → Rises (worth back_price back_rated)
    → ((value : ℤ) → IsWorthValue p e ranges price rated back_price back_rated value → ⊥) → ⊥
worth_value-not_absent p e ranges price rated back_price back_rated are rise back_rise none =
    let l = link_at p e in
    let low = ranges.there.least in
    let low_back = ranges.back.least in
    let least = least_cost-exists l (max low low_back) (top-can_carry p l (max low low_back) (least-le-top p e ranges are)) in
    least_not_absent (IsLoadCost p e ranges) (λ x. 1000 * x.cost + (top - both x.load x.back))
    (record { load = low; back = low_back; cost = l.routing * (low + low_back) + least.0 })
    (record {
      in_range = record { enough = omega arith; few = are.there.some };
      back_in_range = record { enough = omega arith; few = are.other.some };
      is_cost = record { module_cost = least.0; is_least = least.1; is_sum = refl };
    })
    (λ best is. none (net_value (worth price rated) (worth back_price back_rated) best.load best.back best.cost) (record {
      load = best.load;
      back = best.back;
      give = record { in_range = is.holds.in_range; back_in_range = is.holds.back_in_range; cost = best.cost; is_cost = is.holds.is_cost; attained = refl };
      least = λ other other_back c in_range back_in_range is_cost.
          left-le best.cost (both best.load best.back) c (both other other_back) top
          (below best.load best.back is.holds.in_range is.holds.back_in_range) (below other other_back in_range back_in_range)
          (is.least (record { load = other; back = other_back; cost = c }) (record { in_range = in_range; back_in_range = back_in_range; is_cost = is_cost }));
    }))
  where
    both : ℕ → ℕ → ℕ
    both x y = worth price rated x + worth back_price back_rated y

    top : ℕ
    top = both ranges.there.most ranges.back.most

    below : (x y : ℕ) → IsIn ranges.there x → IsIn ranges.back y → both x y ≤ top
    below x y h k = omega (arith, rise x ranges.there.most h.few, back_rise y ranges.back.most k.few)

back-rises : (p : Parts) (cuts : List Cut) (prices rates : List ℕ) (e : ℕ) → AreCuts p cuts → Rises (worth (back_of p (slice_index prices) e) (rated_back p cuts rates e))
back-rises p cuts prices rates e are x y le = by_cases (is_two_way p.orient)
  where
    by_cases : (b : Bool) → worth (if b then slice_index prices (2 * e + 1) else 0) (if b then rated_on p cuts rates (2 * e + 1) else []) x ≤ worth (if b then slice_index prices (2 * e + 1) else 0) (if b then rated_on p cuts rates (2 * e + 1) else []) y
    by_cases true = worth-rise p cuts prices rates (2 * e + 1) x y are le
    by_cases false = omega arith

-- where each range has a load and each demand a permitted path, a bound at prices and rates is not absent
pub rated_bound-not_absent : (p : Parts) (cuts : List Cut) (g : Region) (prices rates : List ℕ) → AreCuts p cuts → AreRanges p g.ranges → ((k : ℕ) → k < length p.demands → (arcs : List ArcId) × IsPermittedPath p g.forbidden k arcs) → ((bound : ℤ) → IsRatedBound p cuts g prices rates bound → ⊥) → ⊥
rated_bound-not_absent p cuts g prices rates cut are paths none =
    all_not_absent (λ k price. IsLeastPrice p g.forbidden prices k price) 0 (length p.demands)
    (λ k below. least_price-not_absent p g.forbidden prices k (paths k below).0 (paths k below).1)
    (λ least_prices are_least. all_not_absent (λ e value. IsRatedValue p cuts g.ranges prices rates e value) (pos 0) (length p.links)
    (λ e below. worth_value-not_absent p e (ranges_of_link p g.ranges e) (there_of p (slice_index prices) e) (rated_there p cuts rates e) (back_of p (slice_index prices) e) (rated_back p cuts rates e) (ranges_of-link p g.ranges e below are)
    (λ x y le. worth-rise p cuts prices rates (if is_two_way p.orient then 2 * e else e) x y cut le) (back-rises p cuts prices rates e cut))
    (λ values are_values.
    (let up = thousandth (pos (price_total p least_prices + cut_total p cuts rates) +ℤ int_sum_below values (length p.links)) in
    none up.0 (record { least_prices = least_prices; values = values; are_least = are_least; are_values = are_values; rounded = up.1 }))))
