-- A least thing exists wherever all candidates can be tried.
use Rattle.std.proofs.Common.{◌≡◌, ℕ, zero, suc, ◌≤◌, ◌⊎◌, inl, inr, Bool, true, false, List, [], ◌∷◌, refl, sym, subst, ◌∙◌, arith}
use Rattle.link_steps.proofs.Order.{either_way}
use Rattle.link_steps.proofs.Least.{IsLeastOf}

-- something least, or nothing at all
pub record IsSearched {A : Type 0} (P : A → Type 0) (measure : A → ℕ) : Type 0 where
  pub outcome : ((a : A) × IsLeastOf P measure a) ⊎ ((a : A) → P a → ⊥)

-- where there is nothing of a kind, the search for a least one is done
pub searched-none : {A : Type 0} (P : A → Type 0) (measure : A → ℕ) → ((a : A) → P a → ⊥) → IsSearched P measure
searched-none P measure none = record { outcome = inr none }

-- the same things under another name
pub searched-same : {A : Type 0} (P Q : A → Type 0) (measure : A → ℕ) → ((a : A) → P a → Q a) → ((a : A) → Q a → P a) → IsSearched P measure → IsSearched Q measure
searched-same {A} P Q measure to from searched = record { outcome = by_cases searched.outcome }
  where
    by_cases : ((a : A) × IsLeastOf P measure a) ⊎ ((a : A) → P a → ⊥) → ((a : A) × IsLeastOf Q measure a) ⊎ ((a : A) → Q a → ⊥)
    by_cases (inl (a, is)) = inl (a, record { holds = to a is.holds; least = λ b hb. is.least b (from b hb) })
    by_cases (inr none) = inr (λ a ha. none a (from a ha))

-- the things of two kinds
pub searched-both : {A : Type 0} (P Q : A → Type 0) (measure : A → ℕ) → IsSearched P measure → IsSearched Q measure → IsSearched (λ a. P a ⊎ Q a) measure
searched-both {A} P Q measure one two = record { outcome = by_cases one.outcome two.outcome }
  where
    by_cases : ((a : A) × IsLeastOf P measure a) ⊎ ((a : A) → P a → ⊥) → ((a : A) × IsLeastOf Q measure a) ⊎ ((a : A) → Q a → ⊥) → ((a : A) × IsLeastOf (λ a. P a ⊎ Q a) measure a) ⊎ ((a : A) → P a ⊎ Q a → ⊥)
    by_cases (inl (a, is)) (inl (b, at)) = elim (either_way (measure a) (measure b)) [
      | inl le ↦ inl (a, record { holds = inl is.holds; least = λ c hc. elim hc [ inl hp ↦ is.least c hp | inr hq ↦ (let beyond = at.least c hq in omega arith) ] })
      | inr lt ↦ inl (b, record { holds = inr at.holds; least = λ c hc. elim hc [ inl hp ↦ (let beyond = is.least c hp in omega arith) | inr hq ↦ at.least c hq ] })
    ]
    by_cases (inl (a, is)) (inr none) = inl (a, record { holds = inl is.holds; least = λ c hc. elim hc [ inl hp ↦ is.least c hp | inr hq ↦ absurd (none c hq) ] })
    by_cases (inr none) (inl (b, at)) = inl (b, record { holds = inr at.holds; least = λ c hc. elim hc [ inl hp ↦ absurd (none c hp) | inr hq ↦ at.least c hq ] })
    by_cases (inr none) (inr none') = inr (λ a ha. elim ha [ inl hp ↦ none a hp | inr hq ↦ none' a hq ])

-- the image of a search under f
pub searched-under : {A B : Type 0} (f : A → B) (P : A → Type 0) (measure : B → ℕ) → IsSearched P (λ a. measure (f a)) → IsSearched (λ b. (a : A) × (P a) × (b ≡ f a)) measure
searched-under {A} {B} f P measure searched = record { outcome = by_cases searched.outcome }
  where
    by_cases : ((a : A) × IsLeastOf P (λ a. measure (f a)) a) ⊎ ((a : A) → P a → ⊥) → ((b : B) × IsLeastOf (λ b. (a : A) × (P a) × (b ≡ f a)) measure b) ⊎ ((b : B) → ((a : A) × (P a) × (b ≡ f a)) → ⊥)
    by_cases (inl (a, is)) = inl (f a, record { holds = (a, is.holds, refl); least = λ b hb. (let le : measure (f a) ≤ measure (f hb.0) = is.least hb.0 hb.1 in subst (λ x. measure (f a) ≤ measure x) (sym hb.2) le) })
    by_cases (inr none) = inr (λ b hb. none hb.0 hb.1)

-- the things that belong to one of the numbers up to n
pub searched-upto : {A : Type 0} (P : ℕ → A → Type 0) (measure : A → ℕ) (n : ℕ) → ((i : ℕ) → IsSearched (P i) measure) → IsSearched (λ a. (i : ℕ) × (i ≤ n) × P i a) measure
searched-upto P measure zero each = searched-same (P 0) (λ a. (i : ℕ) × (i ≤ 0) × P i a) measure (λ a ha. (0, omega arith, ha)) (λ a ha. subst (λ i. P i a) (let below = ha.1 in let same : ha.0 ≡ 0 = omega arith in same) ha.2) (each 0)
searched-upto {A} P measure (suc n) each =
    searched-same (λ a. ((i : ℕ) × (i ≤ n) × P i a) ⊎ P (suc n) a) (λ a. (i : ℕ) × (i ≤ suc n) × P i a) measure to from
    (searched-both (λ a. (i : ℕ) × (i ≤ n) × P i a) (P (suc n)) measure (searched-upto P measure n each) (each (suc n)))
  where
    to : (a : A) → ((i : ℕ) × (i ≤ n) × P i a) ⊎ P (suc n) a → (i : ℕ) × (i ≤ suc n) × P i a
    to a (inl (i, below, h)) = (i, omega arith, h)
    to a (inr h) = (suc n, omega arith, h)

    from : (a : A) → ((i : ℕ) × (i ≤ suc n) × P i a) → ((i : ℕ) × (i ≤ n) × P i a) ⊎ P (suc n) a
    from a (i, below, h) = elim (either_way i n) [ inl le ↦ inl (i, le, h) | inr lt ↦ inr (subst (λ j. P j a) (let same : i ≡ suc n = omega arith in same) h) ]

-- each count is at most n
abbrev pub AreCountsUpto : ℕ → ℕ → List ℕ → Type 0
AreCountsUpto n zero [] = Unit {0}
AreCountsUpto n zero (c ∷ counts) = ⊥
AreCountsUpto n (suc m) [] = ⊥
AreCountsUpto n (suc m) (c ∷ counts) = (c ≤ n) × AreCountsUpto n m counts

-- all lists of m counts up to n that pass a test can be tried
pub searched-counts : (n m : ℕ) (test : List ℕ → Bool) (measure : List ℕ → ℕ) → IsSearched (λ counts. (AreCountsUpto n m counts) × (test counts ≡ true)) measure
searched-counts n zero test measure = by_test (test []) refl
  where
    least : (counts : List ℕ) → (AreCountsUpto n zero counts) × (test counts ≡ true) → measure [] ≤ measure counts
    least [] h = omega arith
    least (c ∷ counts) h = absurd h.0

    none : test [] ≡ false → (counts : List ℕ) → (AreCountsUpto n zero counts) × (test counts ≡ true) → ⊥
    none fails [] h = (let bad : true ≡ false = sym h.1 ∙ fails in cc)
    none fails (c ∷ counts) h = h.0

    by_test : (b : Bool) → test [] ≡ b → IsSearched (λ counts. (AreCountsUpto n zero counts) × (test counts ≡ true)) measure
    by_test true passes = record { outcome = inl ([], record { holds = (tt, passes); least = least }) }
    by_test false fails = record { outcome = inr (none fails) }
searched-counts n (suc m) test measure =
    searched-same (λ counts. (c : ℕ) × (c ≤ n) × ((rest : List ℕ) × ((AreCountsUpto n m rest) × (test (c ∷ rest) ≡ true)) × (counts ≡ c ∷ rest))) (λ counts. (AreCountsUpto n (suc m) counts) × (test counts ≡ true)) measure to from
    (searched-upto (λ c counts. (rest : List ℕ) × ((AreCountsUpto n m rest) × (test (c ∷ rest) ≡ true)) × (counts ≡ c ∷ rest)) measure n
    (λ c. searched-under (λ rest. c ∷ rest) (λ rest. (AreCountsUpto n m rest) × (test (c ∷ rest) ≡ true)) measure (searched-counts n m (λ rest. test (c ∷ rest)) (λ rest. measure (c ∷ rest)))))
  where
    to : (counts : List ℕ) → ((c : ℕ) × (c ≤ n) × ((rest : List ℕ) × ((AreCountsUpto n m rest) × (test (c ∷ rest) ≡ true)) × (counts ≡ c ∷ rest))) → (AreCountsUpto n (suc m) counts) × (test counts ≡ true)
    to counts (c, few, (rest, h, is)) = subst (λ (x : List ℕ). (AreCountsUpto n (suc m) x) × (test x ≡ true)) (sym is) ((few, h.0), h.1)

    from : (counts : List ℕ) → (AreCountsUpto n (suc m) counts) × (test counts ≡ true) → (c : ℕ) × (c ≤ n) × ((rest : List ℕ) × ((AreCountsUpto n m rest) × (test (c ∷ rest) ≡ true)) × (counts ≡ c ∷ rest))
    from [] h = absurd h.0
    from (c ∷ rest) h = (c, h.0.0, (rest, (h.0.1, h.1), refl))
