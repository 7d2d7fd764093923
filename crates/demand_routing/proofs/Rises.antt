-- Loads with one more.
use Rattle.std.proofs.Common.{◌≡◌, ℕ, ◌+◌, ◌-◌, ◌*◌, ◌/◌, ◌%◌, ◌<◌, ◌≤◌, ◌⊎◌, inl, inr, Bool, true, false, min, max, ◌==◌, if◌then◌else◌, refl, ap, subst, arith, eq-eqb, ne_eqb}
use Rattle.plan_base.specs.declared.parts.Parts.{Parts}
use Rattle.plan_base.specs.Arcs.{link_at}
use Rattle.plan_base.specs.Facts.{total_load}
use Rattle.plan_base.specs.Places.{is_two_way, link_of_place, there_of, back_of}
use Rattle.link_steps.specs.Costs.{CannotCarry, IsLeastModuleCost, IsStepCost}
use Rattle.demand_routing.specs.declared.weights.Sides.{Sides}
use Rattle.demand_routing.specs.Traffic.{with_more, other_of, larger_of, IsTooMuch, IsCostOf, IsRise}
use Rattle.demand_routing.specs.Holding.{AreSides, IsCostOfSides}

-- loads with the same larger one and the same sum cost a link the same
cost-same : (p : Parts) (e a b c d cost : ℕ) → max a b ≡ max c d → a + b ≡ c + d → IsStepCost p e a b cost → IsStepCost p e c d cost
cost-same p e a b c d cost larger sum h = record {
  module_cost = h.module_cost;
  is_least = subst (λ (n : ℕ). IsLeastModuleCost p e n h.module_cost) larger h.is_least;
  is_sum = subst (λ (n : ℕ). cost ≡ (link_at p e).routing * n + h.module_cost) sum h.is_sum;
}

more-le : (f : ℕ → ℕ) (q load i : ℕ) → f i ≤ with_more f q load i
more-le f q load i = by_cases (i == q)
  where
    by_cases : (b : Bool) → f i ≤ (if b then f i + load else f i)
    by_cases true = omega arith
    by_cases false = omega arith

back-le : (p : Parts) (f : ℕ → ℕ) (q load e : ℕ) → back_of p f e ≤ back_of p (with_more f q load) e
back-le p f q load e = by_cases (is_two_way p.orient)
  where
    by_cases : (b : Bool) → (if b then f (2 * e + 1) else 0) ≤ (if b then with_more f q load (2 * e + 1) else 0)
    by_cases true = more-le f q load (2 * e + 1)
    by_cases false = omega arith

-- a load more does not lower what a link needs
pub larger-le : (p : Parts) (f : ℕ → ℕ) (q load e : ℕ) → larger_of p f e ≤ larger_of p (with_more f q load) e
larger-le p f q load e =
    let there : there_of p f e ≤ there_of p (with_more f q load) e = more-le f q load _ in
    let back = back-le p f q load e in
    omega arith

-- what is too much is so with a load more
pub too_much-more : (p : Parts) (f : ℕ → ℕ) (q load e : ℕ) → IsTooMuch p f e → IsTooMuch p (with_more f q load) e
too_much-more p f q load e h within counts carries =
    let le = larger-le p f q load e in
    h (omega arith) counts (record { count = carries.count; enough = omega (arith, carries.enough); lawful = carries.lawful })

even_or_odd : (n : ℕ) → (n ≡ 2 * (n / 2)) ⊎ (n ≡ 2 * (n / 2) + 1)
even_or_odd n = grind arith

-- a place and the other one of its link, where it has two
beside : (q : ℕ) → ((if q % 2 == 1 then q - 1 else q + 1) ≡ 2 * (q / 2) + 1) × (q ≡ 2 * (q / 2)) ⊎ ((if q % 2 == 1 then q - 1 else q + 1) ≡ 2 * (q / 2)) × (q ≡ 2 * (q / 2) + 1)
beside q = elim (even_or_odd q) [
  | inl even ↦ inl (rw (ne_eqb (q % 2) 1 (λ e. omega (arith, even, e))) (omega (arith, even)), even)
  | inr odd ↦ inr (rw (eq-eqb (q % 2) 1 (omega (arith, odd))) (omega (arith, odd)), odd)
]

-- two loads with the same larger one and the same sum as two others
abbrev AreSame : ℕ → ℕ → ℕ → ℕ → Type 0
AreSame a b c d = (max a b ≡ max c d) × (a + b ≡ c + d)

-- what a place and the other one of its link have is what the link's places have
sides-same : (p : Parts) (f : ℕ → ℕ) (q : ℕ) → AreSame (f q) (other_of p f q) (there_of p f (link_of_place p q)) (back_of p f (link_of_place p q))
sides-same p f q = by_cases (is_two_way p.orient)
  where
    by_cases : (b : Bool) → AreSame (f q) (if b then f (if q % 2 == 1 then q - 1 else q + 1) else 0) (f (if b then 2 * (if b then q / 2 else q) else (if b then q / 2 else q))) (if b then f (2 * (if b then q / 2 else q) + 1) else 0)
    by_cases true = elim (beside q) [
      | inl even ↦
          (let here : f q ≡ f (2 * (q / 2)) = ap f even.1 in
          let other : f (if q % 2 == 1 then q - 1 else q + 1) ≡ f (2 * (q / 2) + 1) = ap f even.0 in
          (omega (arith, here, other), omega (arith, here, other)))
      | inr odd ↦
          (let here : f q ≡ f (2 * (q / 2) + 1) = ap f odd.1 in
          let other : f (if q % 2 == 1 then q - 1 else q + 1) ≡ f (2 * (q / 2)) = ap f odd.0 in
          (omega (arith, here, other), omega (arith, here, other)))
    ]
    by_cases false = (refl, refl)

-- a load more on a place is none on the other one
other-more : (p : Parts) (f : ℕ → ℕ) (q load : ℕ) → other_of p (with_more f q load) q ≡ other_of p f q
other-more p f q load = by_cases (is_two_way p.orient)
  where
    apart : (if q % 2 == 1 then q - 1 else q + 1) ≡ q → ⊥
    apart same = elim (beside q) [
      | inl even ↦ omega (arith, even.0, even.1, same)
      | inr odd ↦ omega (arith, odd.0, odd.1, same)
    ]

    by_cases : (b : Bool) → (if b then with_more f q load (if q % 2 == 1 then q - 1 else q + 1) else 0) ≡ (if b then f (if q % 2 == 1 then q - 1 else q + 1) else 0)
    by_cases true = rw (ne_eqb (if q % 2 == 1 then q - 1 else q + 1) q apart) refl
    by_cases false = refl

module _ (p : Parts) (f : ℕ → ℕ) (q : ℕ) (s : Sides) (sides : AreSides p f q s) where
  sides-now : AreSame s.here s.other (there_of p f (link_of_place p q)) (back_of p f (link_of_place p q))
  sides-now = rw (sides.here, sides.other) (sides-same p f q)

  sides-more : (load : ℕ) → AreSame (s.here + load) s.other (there_of p (with_more f q load) (link_of_place p q)) (back_of p (with_more f q load) (link_of_place p q))
  sides-more load =
      let same = sides-same p (with_more f q load) q in
      let here : with_more f q load q ≡ f q + load = rw (eq-eqb q q refl) refl in
      rw (sides.here, sides.other, ← other-more p f q load, ← here) same

  -- what a place and the other one of its link carry costs what the link carries
  pub cost-sides : (cost : ℕ) → IsCostOfSides p (link_of_place p q) s cost → IsCostOf p f (link_of_place p q) cost
  cost-sides cost h = cost-same p (link_of_place p q) (max s.here s.other) (min s.here s.other) _ _ cost (omega (arith, sides-now.0)) (omega (arith, sides-now.1)) h

  -- what no counts carry is too much, also with a load more
  pub too_much-sides : (load : ℕ) → CannotCarry p (link_of_place p q) (max s.here s.other) → IsTooMuch p (with_more f q load) (link_of_place p q)
  too_much-sides load h = too_much-more p f q load (link_of_place p q) (λ within. subst (λ (n : ℕ). CannotCarry p (link_of_place p q) n) sides-now.0 h)

  -- what comes to more than the total load is too much
  pub too_much-above : (load : ℕ) → total_load p < s.here + load → IsTooMuch p (with_more f q load) (link_of_place p q)
  too_much-above load above within = absurd (omega (arith, above, within, (sides-more load).0))

  module _ (load : ℕ) (raised : Sides) (here : raised.here ≡ s.here + load) (other : raised.other ≡ s.other) where
    sides-raised : AreSame raised.here raised.other (there_of p (with_more f q load) (link_of_place p q)) (back_of p (with_more f q load) (link_of_place p q))
    sides-raised = rw (here, other) (sides-more load)

    -- what no counts carry with a load more is too much
    pub too_much-raised : CannotCarry p (link_of_place p q) (max raised.here raised.other) → IsTooMuch p (with_more f q load) (link_of_place p q)
    too_much-raised h within = subst (λ (n : ℕ). CannotCarry p (link_of_place p q) n) sides-raised.0 h

    -- the difference of the step costs with a load more and without it is the rise
    pub rise-raised : (before after : ℕ) → max raised.here raised.other ≤ total_load p → IsCostOf p f (link_of_place p q) before → IsCostOfSides p (link_of_place p q) raised after → IsRise p f q load (after - before)
    rise-raised before after low costs_before costs_after = record {
      before = before;
      after = after;
      within = omega (arith, low, sides-raised.0);
      costs_before = costs_before;
      costs_after = cost-same p (link_of_place p q) (max raised.here raised.other) (min raised.here raised.other) _ _ after (omega (arith, sides-raised.0)) (omega (arith, sides-raised.1)) costs_after;
      is_rise = refl;
    }

-- what is above the total load is too much, also with a load more
pub too_much-over : (p : Parts) (f : ℕ → ℕ) (q load : ℕ) → total_load p < max (f q) (other_of p f q) → IsTooMuch p (with_more f q load) (link_of_place p q)
too_much-over p f q load above = too_much-more p f q load (link_of_place p q) (λ within. absurd (omega (arith, above, within, (sides-same p f q).0)))
