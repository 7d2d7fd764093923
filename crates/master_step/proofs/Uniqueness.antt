-- Numbers have one restricted value, one list of numbers for each trial, and one gain.
use Rattle.std.proofs.Common.{◌≡◌, ℕ, zero, suc, ◌+◌, ◌-◌, ◌*◌, ◌<◌, ◌≤◌, ◌^◌, ◌⊎◌, inl, inr, max, List, length, slice_index, refl, sym, ap, subst, ◌∙◌, arith}
use Rattle.std.specs.Prelude.{ℤ, pos, ◌+ℤ◌, ◌≤ℤ◌, ◌<ℤ◌}
use Rattle.std.proofs.lemmas.Int.{ints}
use Rattle.std.proofs.lemmas.List.{ext_get_or}
use Rattle.plan_base.specs.declared.parts.Parts.{Parts}
use Rattle.plan_base.specs.Places.{places, there_of, back_of}
use Rattle.link_steps.specs.declared.range.LoadRange.{LoadRange}
use Rattle.link_steps.specs.declared.range.LinkRanges.{LinkRanges}
use Rattle.link_steps.specs.Tallies.{worth}
use Rattle.link_steps.specs.Values.{ranges_of_link}
use Rattle.link_steps.specs.WorthValues.{GiveNetValue, IsLeastNetValue}
use Rattle.proof_tree.specs.declared.cuts.Cut.{Cut}
use Rattle.proof_tree.specs.Bounds.{price_total}
use Rattle.proof_tree.specs.RatedBounds.{rated_there, rated_back, cut_total}
use Rattle.proof_tree.specs.RatedEvidence.{rates_in}
use Rattle.proof_tree.proofs.Uniqueness.{antisymmetric, int_sum_below-same}
use Rattle.cut_values.specs.Numbers.{least_price_at, most_price_at}
use Rattle.master_step.specs.Columns.{Choices, least_price}
use Rattle.master_step.specs.Restricted.{IsRestrictedValue}
use Rattle.master_step.specs.Trials.{column_load, HasValueLoads, AreValueLoads, apart, max_below, widest_gap, greatest_price, moved, IsTrial}
use Rattle.master_step.specs.Outcomes.{IsRaise, IsGain, IsStalled}
use Rattle.master_step.proofs.PlaceLaws.{places-same}

net_value-unique : (p : Parts) (e : ℕ) (ranges : LinkRanges) (there back : ℕ → ℕ) (v w : ℤ) → IsLeastNetValue p e ranges there back v → IsLeastNetValue p e ranges there back w → v ≡ w
net_value-unique p e ranges there back v w hv hw =
    antisymmetric v w
    (subst (λ (x : ℤ). v ≤ℤ x) hw.give.attained (hv.least hw.load hw.back hw.give.cost hw.give.in_range hw.give.back_in_range hw.give.is_cost))
    (subst (λ (x : ℤ). w ≤ℤ x) hv.give.attained (hw.least hv.load hv.back hv.give.cost hv.give.in_range hv.give.back_in_range hv.give.is_cost))

-- numbers have at most one restricted value
pub value-unique : (p : Parts) (cuts : List Cut) (ranges : List LoadRange) (choices : Choices) (numbers : List ℕ) (v w : ℤ) → IsRestrictedValue p cuts ranges choices numbers v → IsRestrictedValue p cuts ranges choices numbers w → v ≡ w
value-unique p cuts ranges choices numbers v w hv hw =
    hv.is_sum
    ∙ ap (λ (x : ℤ). pos (price_total p (λ k. least_price p numbers (choices k)) + cut_total p cuts (rates_in p numbers)) +ℤ x)
    (int_sum_below-same hv.values hw.values (length p.links) (λ e below. net_value-unique p e (ranges_of_link p ranges e) _ _ _ _ (hv.are_values e below) (hw.are_values e below)))
    ∙ sym hw.is_sum

either_way : (x y : ℕ) → (x ≤ y) ⊎ (y < x)
either_way x y = grind arith

-- the first loads of a link are one
loads-unique : (p : Parts) (cuts : List Cut) (ranges : List LoadRange) (numbers : List ℕ) (e load back other other_back : ℕ) → HasValueLoads p cuts ranges numbers e load back → HasValueLoads p cuts ranges numbers e other other_back → (load ≡ other) × (back ≡ other_back)
loads-unique p cuts ranges numbers e load back other other_back h k =
    let ranged = ranges_of_link p ranges e in
    let there = worth (there_of p (slice_index numbers) e) (rated_there p cuts (rates_in p numbers) e) in
    let again = worth (back_of p (slice_index numbers) e) (rated_back p cuts (rates_in p numbers) e) in
    let same = net_value-unique p e ranged there again h.value k.value h.is_value k.is_value in
    let gives = subst (λ (v : ℤ). GiveNetValue p e ranged there again v load back) same h.are_first.give in
    let other_gives = subst (λ (v : ℤ). GiveNetValue p e ranged there again v other other_back) (sym same) k.are_first.give in
    let equal : max load back ≡ max other other_back = omega (arith, h.are_first.larger other other_back other_gives, k.are_first.larger load back gives) in
    let one = h.are_first.each other other_back other_gives (sym equal) in
    let two = k.are_first.each load back gives equal in
    (omega (arith, one.0, two.0), omega (arith, one.1, two.1))

-- and so are those of a place
pub place-unique : (p : Parts) (cuts : List Cut) (ranges : List LoadRange) (numbers : List ℕ) (loads others : ℕ → ℕ) → AreValueLoads p cuts ranges numbers loads → AreValueLoads p cuts ranges numbers others → (q : ℕ) → q < places p → loads q ≡ others q
place-unique p cuts ranges numbers loads others h k q within = places-same p loads others q within (λ e below. loads-unique p cuts ranges numbers e _ _ _ _ (h e below) (k e below))

-- the greatest of the same numbers is the same
pub max_below-same : (f g : ℕ → ℕ) (n : ℕ) → ((i : ℕ) → i < n → f i ≡ g i) → max_below f n ≡ max_below g n
max_below-same f g zero h = refl
max_below-same f g (suc n) h =
    ap (λ (x : ℕ). max x (f n)) (max_below-same f g n (λ i below. h i (omega arith))) ∙ ap (λ (x : ℕ). max (max_below g n) x) (h n (omega arith))

-- given numbers have at most one trial for each power of 2
pub trial-unique : (p : Parts) (cuts : List Cut) (ranges : List LoadRange) (choices : Choices) (numbers : List ℕ) (j : ℕ) (trial other : List ℕ) → IsTrial p cuts ranges choices numbers j trial → IsTrial p cuts ranges choices numbers j other → trial ≡ other
trial-unique p cuts ranges choices numbers j trial other h k =
    let loads : (q : ℕ) → q < places p → h.loads q ≡ k.loads q = place-unique p cuts ranges numbers h.loads k.loads h.are_loads k.are_loads in
    let widest : widest_gap p (column_load p choices numbers) h.loads ≡ widest_gap p (column_load p choices numbers) k.loads =
    max_below-same (λ q. apart (column_load p choices numbers q) (h.loads q)) (λ q. apart (column_load p choices numbers q) (k.loads q)) (places p)
    (λ q below. ap (λ (x : ℕ). apart (column_load p choices numbers q) x) (loads q below)) in
    let price : (q : ℕ) → q < places p → slice_index trial q ≡ slice_index other q = λ q below.
    h.each q below
    ∙ ap (λ (w : ℕ). moved (least_price_at p cuts numbers q) (most_price_at p cuts numbers q) (greatest_price p numbers) (w * 2 ^ j) (column_load p choices numbers q) (h.loads q) (slice_index numbers q)) widest
    ∙ ap (λ (x : ℕ). moved (least_price_at p cuts numbers q) (most_price_at p cuts numbers q) (greatest_price p numbers) (widest_gap p (column_load p choices numbers) k.loads * 2 ^ j) (column_load p choices numbers q) x (slice_index numbers q)) (loads q below)
    ∙ sym (k.each q below) in
    ext_get_or 0 trial other (h.count ∙ sym k.count) (λ i within. elim (either_way (places p) i) [
      | inr place ↦ price i place
      | inl behind ↦ behind_places i behind (omega (arith, h.count))
    ])
  where
    behind_places : (i : ℕ) → places p ≤ i → i < places p + length cuts → slice_index trial i ≡ slice_index other i
    behind_places i behind within =
        let whole : places p + (i - places p) ≡ i = omega (arith, behind) in
        let few : i - places p < length cuts = omega (arith, behind) in
        subst (λ (n : ℕ). slice_index trial n ≡ slice_index other n) whole (h.rates (i - places p) few ∙ sym (k.rates (i - places p) few))

not_both : (v w : ℤ) → v <ℤ w → w ≤ℤ v → ⊥
not_both v w h k = omega (arith, ints)

-- the first of the best trials
same_place : (p : Parts) (cuts : List Cut) (ranges : List LoadRange) (choices : Choices) (numbers : List ℕ) (old other_old : ℤ) (trial other : List ℕ) (new other_new : ℤ) → (h : IsRaise p cuts ranges choices numbers old trial new)
    → (k : IsRaise p cuts ranges choices numbers other_old other other_new) → h.j ≡ k.j
same_place p cuts ranges choices numbers old other_old trial other new other_new h k = elim (either_way h.j k.j) [
  | inr more ↦ absurd (not_both other_new new (h.first k.j other other_new more k.is_trial k.is_new) (k.greatest h.j trial new h.within h.is_trial h.is_new))
  | inl most ↦ elim (either_way k.j h.j) [
    | inr less ↦ absurd (not_both new other_new (k.first h.j trial new less h.is_trial h.is_new) (h.greatest k.j other other_new k.within k.is_trial k.is_new))
    | inl least ↦ omega arith
  ]
]

-- two raises of the same numbers have the same trial
pub raise-trial : (p : Parts) (cuts : List Cut) (ranges : List LoadRange) (choices : Choices) (numbers : List ℕ) (old other_old : ℤ) (trial other : List ℕ) (new other_new : ℤ) → IsRaise p cuts ranges choices numbers old trial new → IsRaise p cuts ranges choices numbers other_old other other_new
    → trial ≡ other
raise-trial p cuts ranges choices numbers old other_old trial other new other_new h k =
    trial-unique p cuts ranges choices numbers h.j trial other h.is_trial
    (subst (λ (j : ℕ). IsTrial p cuts ranges choices numbers j other) (sym (same_place p cuts ranges choices numbers old other_old trial other new other_new h k)) k.is_trial)

-- two raises of the same numbers have the same new value
pub raise-value : (p : Parts) (cuts : List Cut) (ranges : List LoadRange) (choices : Choices) (numbers : List ℕ) (old other_old : ℤ) (trial other : List ℕ) (new other_new : ℤ) → IsRaise p cuts ranges choices numbers old trial new → IsRaise p cuts ranges choices numbers other_old other other_new
    → new ≡ other_new
raise-value p cuts ranges choices numbers old other_old trial other new other_new h k =
    value-unique p cuts ranges choices other new other_new
    (subst (λ (xs : List ℕ). IsRestrictedValue p cuts ranges choices xs new) (raise-trial p cuts ranges choices numbers old other_old trial other new other_new h k) h.is_new) k.is_new

-- numbers have at most one gain
pub gain-unique : (p : Parts) (cuts : List Cut) (ranges : List LoadRange) (choices : Choices) (numbers : List ℕ) (old other_old new other_new : ℤ) → IsGain p cuts ranges choices numbers old new → IsGain p cuts ranges choices numbers other_old other_new → new ≡ other_new
gain-unique p cuts ranges choices numbers old other_old new other_new h k = raise-value p cuts ranges choices numbers old other_old h.trial k.trial new other_new h.is_raise k.is_raise

-- numbers that have a gain are not stalled
pub gain-not_stalled : (p : Parts) (cuts : List Cut) (ranges : List LoadRange) (choices : Choices) (numbers : List ℕ) (old other_old new : ℤ) → IsGain p cuts ranges choices numbers old new → IsStalled p cuts ranges choices numbers other_old → ⊥
gain-not_stalled p cuts ranges choices numbers old other_old new h k =
    let raise = h.is_raise in
    let same : old ≡ other_old = value-unique p cuts ranges choices numbers old other_old raise.is_old k.is_old in
    not_both old new raise.greater (subst (λ (x : ℤ). new ≤ℤ x) (sym same) (k.none_greater raise.j h.trial new raise.within raise.is_trial raise.is_new))
