-- A child's recorded bound is at least its parent's.
use Rattle.std.proofs.Common.{◌≡◌, ℕ, zero, suc, ◌+◌, ◌*◌, ◌<◌, ◌≤◌, inl, inr, List, length, slice_index, Some, slice_get, Option, sym, ap, subst, ◌∙◌, arith, ℤ, pos, ◌+ℤ◌, ◌≤ℤ◌, mul-le-mul_left}
use Rattle.std.proofs.lemmas.Int.{ints}
use Rattle.plan_base.specs.declared.parts.Parts.{Parts}
use Rattle.plan_base.specs.Arcs.{demand_at}
use Rattle.plan_base.specs.Places.{there_of, back_of}
use Rattle.plan_base.specs.Sums.{int_sum_below}
use Rattle.link_steps.specs.Ranges.{range_there, range_back}
use Rattle.link_steps.specs.declared.rated.Rated.{Rated}
use Rattle.link_steps.specs.Values.{ranges_of_link}
use Rattle.link_steps.specs.WorthValues.{IsWorthValue}
use Rattle.proof_tree.specs.declared.cuts.Cut.{Cut}
use Rattle.proof_tree.specs.Regions.{Region}
use Rattle.proof_tree.specs.Bounds.{price_total}
use Rattle.proof_tree.specs.RatedBounds.{rated_there, rated_back, cut_total}
use Rattle.proof_tree.specs.RatedEvidence.{rates_in, IsBoundAt}
use Rattle.search_machine.specs.State.{Best, Division, DividedBy, Limit, left_limit, right_limit, Node, State, cutoff_of, region_of, region_by, narrowed, kept_by}
use Rattle.search_machine.specs.Family.{IsChild, IsChildBy}
use Rattle.search_machine.specs.Nodes.{IsSoundFate, HasSoundFate, IsSoundBest, IsSoundDivider}
use Rattle.search_machine.specs.Soundness.{IsSound}
use Rattle.search_machine.proofs.Lists.{All-at}
use Rattle.search_machine.proofs.Choices.{sum_below-le}
use Rattle.search_machine.proofs.Narrowing.{AreWithin, IsIn-outer, there-within, back-within, IsInside, left-inside, right-inside}
use Rattle.search_machine.proofs.Replacing.{node_at}

int_sum_below-le : (f g : ℕ → ℤ) (n : ℕ) → ((i : ℕ) → i < n → f i ≤ℤ g i) → int_sum_below f n ≤ℤ int_sum_below g n
int_sum_below-le f g zero h = omega (arith, ints)
int_sum_below-le f g (suc n) h =
    let before = int_sum_below-le f g n (λ i below. h i (omega arith)) in
    let here = h n (omega arith) in
    omega (arith, ints)

-- a link's value over fewer loads is at least that over more
link_value-rises : (p : Parts) (inner outer : Region) (e price : ℕ) (rated : List Rated) (back_price : ℕ) (back_rated : List Rated) (above below : ℤ) → AreWithin inner.ranges outer.ranges
    → IsWorthValue p e (ranges_of_link p outer.ranges e) price rated back_price back_rated above → IsWorthValue p e (ranges_of_link p inner.ranges e) price rated back_price back_rated below → above ≤ℤ below
link_value-rises p inner outer e price rated back_price back_rated above below within x y =
    let give = y.give in
    subst (λ (v : ℤ). above ≤ℤ v) give.attained
    (x.least y.load y.back give.cost
    (IsIn-outer (range_there p inner.ranges e) (range_there p outer.ranges e) y.load (there-within p inner.ranges outer.ranges e within) give.in_range)
    (IsIn-outer (range_back p inner.ranges e) (range_back p outer.ranges e) y.back (back-within p inner.ranges outer.ranges e within) give.back_in_range)
    give.is_cost)

-- at the same prices and rates a region inside another one has at least its bound
pub IsBoundAt-rises : (p : Parts) (cuts : List Cut) (inner outer : Region) (prices : List ℕ) (above below : ℤ) → IsInside p inner outer → IsBoundAt p cuts outer prices above → IsBoundAt p cuts inner prices below → above ≤ℤ below
IsBoundAt-rises p cuts inner outer prices above below inside x y =
    let rates = rates_in p prices in
    let total : price_total p x.least_prices ≤ price_total p y.least_prices =
    sum_below-le (λ k. (demand_at p k).load * x.least_prices k) (λ k. (demand_at p k).load * y.least_prices k) (length p.demands)
    (λ k within.
    let a = x.are_least k within in
    let b = y.are_least k within in
    let less = a.least b.path (inside.paths k b.path b.permitted) in
    let is = b.attained in
    mul-le-mul_left (demand_at p k).load (omega arith)) in
    let values : int_sum_below x.values (length p.links) ≤ℤ int_sum_below y.values (length p.links) =
    int_sum_below-le x.values y.values (length p.links)
    (λ e within. link_value-rises p inner outer e (there_of p (slice_index prices) e) (rated_there p cuts rates e) (back_of p (slice_index prices) e) (rated_back p cuts rates e) (x.values e) (y.values e) inside.loads (x.are_values e within) (y.are_values e within)) in
    x.rounded.least below (sums _ _ (cut_total p cuts rates) _ _ _ total values y.rounded.reaches)
  where
    sums : (a b c : ℕ) (u v z : ℤ) → a ≤ b → u ≤ℤ v → (pos (b + c) +ℤ v) ≤ℤ z → (pos (a + c) +ℤ u) ≤ℤ z
    sums a b c u v z h e f = omega (arith, ints)

-- the region of a child is that of its parent with one limit more
pub child-region : (p : Parts) (parent child : Node) (limit : Limit) → IsChild parent limit child → region_of p child ≡ narrowed (region_of p parent) limit
child-region p parent child limit c = ap (region_by p) c.limits

-- the children of a sound division lie inside their parent's region
pub child-inside : (p : Parts) (cuts : List Cut) (cost : Option ℕ) (parent child : Node) (d : Division) → HasSoundFate p cuts cost parent → parent.fate ≡ DividedBy d → IsChildBy parent d child
    → IsInside p (region_of p child) (region_of p parent)
child-inside p cuts cost parent child d fate divided is =
    let g = region_of p parent in
    let sound : IsSoundDivider p g d.by = subst (IsSoundFate p cuts cost g) divided fate in
    elim is [
      | inl left ↦ subst (λ (x : Region). IsInside p x g) (sym (child-region p parent child (left_limit d.by) left)) (left-inside p g d.by sound)
      | inr right ↦ subst (λ (x : Region). IsInside p x g) (sym (child-region p parent child (right_limit d.by) right)) (right-inside p g d.by sound)
    ]

-- a child begins with the prices that its parent keeps
child-prices : (parent child : Node) (d : Division) → IsChildBy parent d child → child.first_prices ≡ kept_by parent.best parent.first_prices
child-prices parent child d is = elim is [ inl left ↦ left.first_prices | inr right ↦ right.first_prices ]

-- where both are recorded, the child's bound is at least its parent's
pub child-rises : (s : State) (n m : ℕ) (parent child : Node) (d : Division) (one other : Best) → IsSound s → slice_get s.nodes n ≡ Some parent → parent.fate ≡ DividedBy d
    → slice_get s.nodes m ≡ Some child → IsChildBy parent d child → parent.best ≡ Some one → child.best ≡ Some other → one.bound ≤ℤ other.bound
child-rises s n m parent child d one other h is_parent divided is_child c at_parent at_child =
    let p = s.problem in
    let a : IsSoundBest p s.cuts (region_of p parent) parent.first_prices parent.completed one = rw at_parent at ((node_at s n parent h is_parent).best) in
    let b : IsSoundBest p s.cuts (region_of p child) child.first_prices child.completed other = rw at_child at ((node_at s m child h is_child).best) in
    let inside = child-inside p s.cuts (cutoff_of s) parent child d (All-at (HasSoundFate p s.cuts (cutoff_of s)) s.nodes n parent h.fates is_parent) divided c in
    let prices : child.first_prices ≡ one.prices = child-prices parent child d c ∙ ap (λ (o : Option Best). kept_by o parent.first_prices) at_parent in
    let at_best : IsBoundAt p s.cuts (region_of p child) one.prices b.first = subst (λ (ps : List ℕ). IsBoundAt p s.cuts (region_of p child) ps b.first) prices b.is_first in
    let rises = IsBoundAt-rises p s.cuts (region_of p child) (region_of p parent) one.prices one.bound b.first inside a.is_bound at_best in
    let above = b.above_first in
    omega (arith, ints)
