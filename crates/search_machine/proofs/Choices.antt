-- A side of a split leaves fewer choices.
use Rattle.std.proofs.Common.{◌≡◌, ◌≢◌, ℕ, zero, suc, ◌-◌, ◌*◌, ◌<◌, ◌≤◌, inl, inr, Bool, true, false, not, ◌||◌, ◌&&◌, ◌==◌, List, length, refl, ap, subst, arith, if◌then◌else◌}
use Rattle.std.proofs.lemmas.Bool.{eq-eqb, ne_eqb, ltb-true}
use Rattle.plan_base.specs.declared.ids.ArcId.{ArcId}
use Rattle.plan_base.specs.declared.ids.DemandId.{DemandId}
use Rattle.plan_base.specs.declared.parts.Parts.{Parts}
use Rattle.plan_base.specs.Sums.{sum_below}
use Rattle.plan_base.specs.Arcs.{is_arc, link_of, tail_of, demand_at}
use Rattle.plan_base.proofs.Bools.{and-first}
use Rattle.arc_restrict.specs.Restrictions.{Forbidden, is_among, with_forbidden}
use Rattle.path_pricing.specs.Faults.{arc_id}
use Rattle.search_machine.specs.Nodes.{LeavesNode}
use Rattle.search_machine.specs.Depth.{way_by, ways_at, choices_at, choices_of}
use Rattle.search_machine.proofs.Frames.{same_or_other}

-- Sums

-- where no term is greater, the sum is not
pub sum_below-le : (f g : ℕ → ℕ) (n : ℕ) → ((i : ℕ) → i < n → f i ≤ g i) → sum_below f n ≤ sum_below g n
sum_below-le f g zero h = omega arith
sum_below-le f g (suc n) h =
    let before = sum_below-le f g n (λ i below. h i (omega arith)) in
    let here = h n (omega arith) in
    omega arith

-- where no term is greater and one is less, the sum is less
pub sum_below-less : (f g : ℕ → ℕ) (n i : ℕ) → i < n → ((j : ℕ) → j < n → f j ≤ g j) → f i < g i → sum_below f n < sum_below g n
sum_below-less f g zero i within h less = absurd (omega arith)
sum_below-less f g (suc n) i within h less = elim (same_or_other i n) [
  | inl e ↦
      let before = sum_below-le f g n (λ j below. h j (omega arith)) in
      let here : f n < g n = subst (λ (k : ℕ). f k < g k) e less in
      omega arith
  | inr ne ↦
      let before = sum_below-less f g n i (omega arith) (λ j below. h j (omega arith)) less in
      let here = h n (omega arith) in
      omega arith
]

sum_below-at : (f : ℕ → ℕ) (n i : ℕ) → i < n → f i ≤ sum_below f n
sum_below-at f zero i within = absurd (omega arith)
sum_below-at f (suc n) i within = elim (same_or_other i n) [
  | inl e ↦ let here : f i ≡ f n = ap f e in omega arith
  | inr ne ↦ let before = sum_below-at f n i (omega arith) in omega arith
]

-- Ways

gate-le : (a b c : Bool) → (b ≡ true → c ≡ true) → (if a && b then 1 else 0) ≤ (if a && c then 1 else 0)
gate-le false b c h = omega arith
gate-le true false c h = grind arith
gate-le true true c h = rw (h refl) (omega arith)

not_or : (x y : Bool) → not (x || y) ≡ true → not x ≡ true
not_or true y h = h
not_or false y h = refl

module _ (p : Parts) (r : Forbidden) (id : DemandId) (arcs : List ArcId) where
  abbrev after : Forbidden
  after = with_forbidden r id arcs

  way_by-le : (k node n : ℕ) → way_by p after k node n ≤ way_by p r k node n
  way_by-le k node n =
      gate-le (is_arc p (arc_id n) && ((tail_of p (arc_id n)).0 == node)) (not (after k (arc_id n))) (not (r k (arc_id n)))
      (not_or (r k (arc_id n)) (k == id.0 && is_among arcs (arc_id n)))

  ways_at-le : (k node : ℕ) → ways_at p after k node ≤ ways_at p r k node
  unfolding ways_at
  ways_at-le k node = sum_below-le (way_by p after k node) (way_by p r k node) (2 * length p.links) (λ i below. way_by-le k node i)

  choices_at-le : (k node : ℕ) → choices_at p after k node ≤ choices_at p r k node
  unfolding choices_at
  choices_at-le k node = by (node == (demand_at p k).target.0)
    where
      by : (b : Bool) → (if b then 0 else ways_at p after k node - 1) ≤ (if b then 0 else ways_at p r k node - 1)
      by true = omega arith
      by false = let le = ways_at-le k node in omega arith

-- the number of an arc is below twice the number of links
pub arc-within : (p : Parts) (a : ArcId) → is_arc p a ≡ true → a.0 < 2 * length p.links
arc-within p a h = let l : link_of a < length p.links = ltb-true _ _ (and-first _ _ h) in omega arith

way_by-one : (p : Parts) (r : Forbidden) (k node : ℕ) (a : ArcId) → LeavesNode p node a → r k a ≡ false → way_by p r k node a.0 ≡ 1
way_by-one p r k node a leaves free =
    let tail : ((tail_of p a).0 == node) ≡ true = eq-eqb _ _ leaves.tail in
    rw (leaves.arc, tail, free) refl

way_by-none : (p : Parts) (r : Forbidden) (k node : ℕ) (a : ArcId) → r k a ≡ true → way_by p r k node a.0 ≡ 0
way_by-none p r k node a taken = rw taken (off (is_arc p a && ((tail_of p a).0 == node)))
  where
    off : (b : Bool) → ◌≡◌ {A = ℕ} (if b && false then 1 else 0) 0
    off true = refl
    off false = refl

-- a side takes an arc that was free, and leaves one that is
pub record TakesAWay (p : Parts) (r : Forbidden) (id : DemandId) (node : ℕ) (arcs : List ArcId) : Type 0 where
  pub demand : id.0 < length p.demands
  pub node_within : node < p.nodes
  pub no_target : node ≢ (demand_at p id.0).target.0
  pub taken : ArcId
  pub taken_leaves : LeavesNode p node taken
  pub was_free : r id.0 taken ≡ false
  pub among : is_among arcs taken ≡ true
  pub kept : ArcId
  pub kept_leaves : LeavesNode p node kept
  pub stays_free : with_forbidden r id arcs id.0 kept ≡ false

with_forbidden-true : (r : Forbidden) (id : DemandId) (arcs : List ArcId) (a : ArcId) → is_among arcs a ≡ true → with_forbidden r id arcs id.0 a ≡ true
with_forbidden-true r id arcs a among =
    let same : (id.0 == id.0) ≡ true = eq-eqb _ _ refl in
    rw (same, among) (or_true (r id.0 a))
  where
    or_true : (b : Bool) → (b || true) ≡ true
    or_true true = refl
    or_true false = refl

choices_at-less : (p : Parts) (r : Forbidden) (id : DemandId) (node : ℕ) (arcs : List ArcId) → TakesAWay p r id node arcs
    → choices_at p (with_forbidden r id arcs) id.0 node < choices_at p r id.0 node
unfolding choices_at ways_at
choices_at-less p r id node arcs h =
    let after = with_forbidden r id arcs in
    let off : (node == (demand_at p id.0).target.0) ≡ false = ne_eqb _ _ h.no_target in
    let before_ = way_by-one p r id.0 node h.taken h.taken_leaves h.was_free in
    let now = way_by-none p after id.0 node h.taken (with_forbidden-true r id arcs h.taken h.among) in
    let fewer = sum_below-less (way_by p after id.0 node) (way_by p r id.0 node) (2 * length p.links) h.taken.0 (arc-within p h.taken h.taken_leaves.arc) (λ j below. way_by-le p r id arcs id.0 node j) (omega arith) in
    let one = way_by-one p after id.0 node h.kept h.kept_leaves h.stays_free in
    let some = sum_below-at (way_by p after id.0 node) (2 * length p.links) h.kept.0 (arc-within p h.kept h.kept_leaves.arc) in
    rw off (omega arith)

-- a side of a split that takes a free arc and leaves one leaves fewer choices over all demands and nodes
pub choices_of-less : (p : Parts) (r : Forbidden) (id : DemandId) (node : ℕ) (arcs : List ArcId) → TakesAWay p r id node arcs → choices_of p (with_forbidden r id arcs) < choices_of p r
choices_of-less p r id node arcs h =
    let after = with_forbidden r id arcs in
    sum_below-less (λ k. sum_below (choices_at p after k) p.nodes) (λ k. sum_below (choices_at p r k) p.nodes) (length p.demands) id.0 h.demand
    (λ k below. sum_below-le (choices_at p after k) (choices_at p r k) p.nodes (λ v within. choices_at-le p r id arcs k v))
    (sum_below-less (choices_at p after id.0) (choices_at p r id.0) p.nodes node h.node_within (λ v within. choices_at-le p r id arcs id.0 v) (choices_at-less p r id node arcs h))
