-- The greatest reach, found capacity by capacity.
use Rattle.std.proofs.Common.{◌≡◌, ℕ, ◌+◌, ◌<◌, ◌≤◌, ◌⊎◌, ⊎_elim, inl, inr, List, length, Option, Some, None, refl, ap, ◌∙◌, arith, cond}
use Rattle.std.specs.Ordering.{ord_max, nat_cmp, is_lt}
use Rattle.std.proofs.lemmas.Cmp.{ranked, by_ranked}
use borrow.Author.Count.{below_more}
use Rattle.explicit_steps.specs.declared.limits.TheConstants.{CAPACITY_BOUND}
use Rattle.explicit_steps.specs.declared.choices.Choice.{Choice}
use Rattle.explicit_steps.specs.Choices.{choice_at, IsPick, reach_with, IsGreatestReach}

-- it is the greatest capacity of the first so many, or 0
pub record IsMostOf (choices : List Choice) (count most : ℕ) : Type 0 where
  pub bound : most < CAPACITY_BOUND
  pub attained : (most ≡ 0) ⊎ ((k : ℕ) × (k < count) × ((choice_at choices k).capacity ≡ most))
  pub greatest : (k : ℕ) → k < count → (choice_at choices k).capacity ≤ most

-- of no choice, the greatest capacity is 0
pub none_yet : (choices : List Choice) → IsMostOf choices 0 0
none_yet choices = record { bound = omega arith; attained = inl refl; greatest = λ k l. absurd (omega arith) }

-- the greater of the two
pub greater : (a b next : ℕ) → next ≡ ord_max nat_cmp a b → ((next ≡ a) ⊎ (next ≡ b)) × (a ≤ next) × (b ≤ next)
greater a b next is = by_ranked (b < a) (b ≡ a) (a < b) (nat_cmp b a) (ranked b a (nat_cmp b a) refl)
    (λ o lt. let e : next ≡ a = is ∙ ap (λ z. cond (is_lt z) a b) o in (inl e, omega arith, omega arith))
    (λ o same. let e : next ≡ b = is ∙ ap (λ z. cond (is_lt z) a b) o in (inr e, omega arith, omega arith))
    (λ o lt. let e : next ≡ b = is ∙ ap (λ z. cond (is_lt z) a b) o in (inr e, omega arith, omega arith))

-- the greater of the capacities so far and the next is the greatest
pub one_more : (choices : List Choice) (count most next : ℕ) → next ≡ ord_max nat_cmp most (choice_at choices count).capacity → (choice_at choices count).capacity < CAPACITY_BOUND → IsMostOf choices count most → IsMostOf choices (count + 1) next
one_more choices count most next is small old =
    let both = greater most (choice_at choices count).capacity next is in
    let more = both.1 in
    let here = both.2 in record {
      bound = let b = old.bound in ⊎_elim (λ (e : next ≡ most). omega arith) (λ (e : next ≡ (choice_at choices count).capacity). omega arith) both.0;
      attained = ⊎_elim
          (λ (e : next ≡ most). ⊎_elim (λ (z : most ≡ 0). inl (omega arith)) (λ (a : (k : ℕ) × (k < count) × ((choice_at choices k).capacity ≡ most)). let l = a.1 in let f = a.2 in inr (a.0, omega arith, omega arith)) old.attained)
          (λ (e : next ≡ (choice_at choices count).capacity). inr (count, omega arith, omega arith))
          both.0;
      greatest = below_more (λ k. (choice_at choices k).capacity ≤ next) count (λ k l. let g = old.greatest k l in omega arith) here;
    }

-- after the last choice, the preinstalled capacity and the greatest one make the greatest reach
pub all_seen : (pre : ℕ) (choices : List Choice) (most : ℕ) → IsMostOf choices (length choices) most → IsGreatestReach pre choices (pre + most)
all_seen pre choices most seen = ⊎_elim
    (λ (z : most ≡ 0). record { pick = None; is_pick = tt; attained = omega arith; greatest = no_farther })
    (λ (a : (k : ℕ) × (k < length choices) × ((choice_at choices k).capacity ≡ most)). record { pick = Some a.0; is_pick = a.1; attained = ap (λ c. pre + c) a.2; greatest = no_farther })
    seen.attained
  where
    no_farther : (other : Option ℕ) → IsPick choices other → reach_with pre choices other ≤ pre + most
    no_farther None is = omega arith
    no_farther (Some k) is = let g = seen.greatest k is in omega arith
