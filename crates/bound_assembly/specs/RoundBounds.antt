-- The bound that prices and lengths give.
use Rattle.std.specs.Prelude.{ℕ, ◌≡◌, ◌≤◌, ◌<◌, ◌+◌, ◌*◌, false, List, length, slice_index, Option, Some, All, IfSome, IsTrue, ℤ, pos, ◌+ℤ◌}
use Rattle.std.specs.Option.{unwrap_or}
use Rattle.plan_base.specs.declared.parts.Parts.{Parts}
use Rattle.plan_base.specs.Sums.{sum_below, int_sum_below}
use Rattle.plan_base.specs.Facts.{is_useful, price_limit}
use Rattle.plan_base.specs.Places.{places, link_of_place}
use Rattle.plan_base.specs.Arcs.{link_at}
use Rattle.arc_restrict.specs.Restrictions.{Forbidden}
use Rattle.arc_restrict.specs.Prices.{IsLeastPrice}
use Rattle.link_steps.specs.declared.range.LoadRange.{LoadRange}
use Rattle.proof_tree.specs.declared.cuts.Cut.{Cut}
use Rattle.proof_tree.specs.Bounds.{IsThousandthUp, price_total}
use Rattle.proof_tree.specs.RatedBounds.{AreRatedValues, cut_total}
use Rattle.proof_tree.specs.Evidence.{is_cut_short, room_at}
use Rattle.proof_tree.specs.RatedEvidence.{rates_in}
use Rattle.bound_assembly.specs.declared.limits.TheConstants.{MAX_PATH_LINKS}
use Rattle.bound_assembly.specs.Rounds.{length_at, HasLength}

-- the length of a demand, 0 where none was put
abbrev pub length_of : List (Option ℕ) → ℕ → ℕ
length_of lengths k = unwrap_or (length_at lengths k) 0

-- no length is more than a simple path costs with the price limit on each place
abbrev pub AreShort : Parts → List (Option ℕ) → Type 0
AreShort p lengths = All (λ found. IfSome found (λ price. price ≤ MAX_PATH_LINKS * price_limit p)) lengths

-- each demand has a length; loads times lengths of the demands, rates times what the cuts count at least, and the values of
-- the links, together over 1,000, rounded up, in cost grains
pub record IsRoundBound (p : Parts) (cuts : List Cut) (ranges : List LoadRange) (numbers : List ℕ) (lengths : List (Option ℕ)) (bound : ℤ) : Type 0 where
  pub complete : (k : ℕ) → k < length p.demands → HasLength lengths k
  pub values : ℕ → ℤ
  pub are_values : AreRatedValues p cuts ranges numbers (rates_in p numbers) values
  pub rounded : IsThousandthUp (pos (price_total p (length_of lengths) + cut_total p cuts (rates_in p numbers)) +ℤ int_sum_below values (length p.links)) bound

-- the price of each place before a count is 0 where its link is useful and its range ends at the top load
abbrev pub AreFree : Parts → List LoadRange → List ℕ → ℕ → Type 0
AreFree p ranges prices count = (q : ℕ) → q < count → IsTrue (is_useful (link_at p (link_of_place p q))) → is_cut_short p ranges q ≡ false → slice_index prices q ≡ 0

-- the sum of prices times what the places before a count carry at most where no module is added
abbrev pub priced_room : Parts → List LoadRange → List ℕ → ℕ → ℕ
priced_room p ranges prices count = sum_below (λ q. slice_index prices q * room_at p ranges q) count

-- each demand has a length; the places of useful links are free where their ranges end at the top load, and loads times
-- lengths exceed prices times what the places carry at most
pub record IsRoundCrowd (p : Parts) (ranges : List LoadRange) (prices : List ℕ) (lengths : List (Option ℕ)) : Type 0 where
  pub complete : (k : ℕ) → k < length p.demands → HasLength lengths k
  pub free : AreFree p ranges prices (places p)
  pub crowded : priced_room p ranges prices (places p) < price_total p (length_of lengths)

-- each length that was put is the least price of its demand
abbrev pub AreLeastLengths : Parts → Forbidden → List ℕ → List (Option ℕ) → Type 0
AreLeastLengths p r prices lengths = (k price : ℕ) → k < length p.demands → length_at lengths k ≡ Some price → IsLeastPrice p r prices k price
