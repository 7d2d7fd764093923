-- A search stays a search when it goes along one more arc.
use Rattle.std.proofs.Common.{◌≡◌, ◌≢◌, ℕ, suc, ◌<◌, ◌≤◌, ◌+◌, ◌⊎◌, inl, inr, Bool, true, false, ◌==◌, List, [], ◌∷◌, ◌++◌, length, get_or, set, refl, sym, ap, subst, ◌∙◌, arith}
use Rattle.std.proofs.lemmas.Bool.{eqb-true, eqb-false}
use Rattle.std.proofs.lemmas.List.{length-append, get_or_append_left, get_or-set_same, get_or-set_other, length-set}
use Rattle.std.proofs.Math.Seq.{get_or-append_seam}
use Rattle.plan_base.specs.declared.ids.NodeId.{NodeId}
use Rattle.plan_base.specs.declared.ids.ArcId.{ArcId}
use Rattle.plan_base.specs.declared.parts.Parts.{Parts}
use Rattle.plan_base.specs.Arcs.{tail_of, head_of, no_arc}
use Rattle.plan_base.specs.Paths.{arc_at}
use Rattle.second_path.specs.Others.{holds}
use Rattle.second_path.specs.Searching.{IsBefore, IsTree, IsSearch, IsArrival}

-- ---- lists with one arc more

-- one arrival more leaves the ones before it
pub more-before : (xs : List ArcId) (x : ArcId) (i : ℕ) → i < length xs → arc_at (xs ++ x ∷ []) i ≡ arc_at xs i
more-before xs x i within = get_or_append_left xs (x ∷ []) no_arc i within

-- the new arrival is the last
pub more-last : (xs : List ArcId) (x : ArcId) → arc_at (xs ++ x ∷ []) (length xs) ≡ x
more-last xs x = get_or-append_seam xs x [] no_arc

-- one arrival more makes the list longer by one
pub length-more : (xs : List ArcId) (x : ArcId) → length (xs ++ x ∷ []) ≡ suc (length xs)
length-more xs x = length-append xs (x ∷ []) ∙ omega arith

-- of the numbers below the next one, each is before the last or the last
pub last_or_before : (n i : ℕ) → i < n + 1 → (i < n) ⊎ (i ≡ n)
last_or_before n i h = grind arith

-- the same with the next number as a successor
pub old_or_last : (n i : ℕ) → i < suc n → (i < n) ⊎ (i ≡ n)
old_or_last n i h = grind arith

-- what holds of each arrival and of the new one holds of all
pub at_each : (P : ℕ → ArcId → Type 0) (xs : List ArcId) (x : ArcId) → ((i : ℕ) → i < length xs → P i (arc_at xs i)) → P (length xs) x → (i : ℕ) → i < length (xs ++ x ∷ []) → P i (arc_at (xs ++ x ∷ []) i)
at_each P xs x old last i within =
    elim (old_or_last (length xs) i (subst (λ n. i < n) (length-more xs x) within)) [
      | inl before ↦ subst (P i) (sym (more-before xs x i before)) (old i before)
      | inr is ↦ subst (λ j. P j (arc_at (xs ++ x ∷ []) j)) (sym is) (subst (P (length xs)) (sym (more-last xs x)) last)
    ]

-- ---- nodes before a place

-- what was arrived at before is so in a longer list that begins the same
pub before_along : (p : Parts) (start : NodeId) (xs ys : List ArcId) (n m v : ℕ) → n ≤ m → ((i : ℕ) → i < n → arc_at ys i ≡ arc_at xs i) → IsBefore p start xs n v → IsBefore p start ys m v
before_along p start xs ys n m v room same h = elim h [
  | inl is ↦ inl is
  | inr led ↦ inr (record {
    place = led.place;
    within = omega (arith, led.within, room);
    leads = ap (λ a. (head_of p a).0) (same led.place led.within) ∙ led.leads;
  })
]

-- ---- sets of nodes

holds-set_same : (met : List Bool) (h : ℕ) → h < length met → holds (set met h true) h ≡ true
holds-set_same met h within = get_or-set_same met h true false within

-- a node that was met stays met
pub holds-set_keeps : (met : List Bool) (h v : ℕ) → h < length met → holds met v ≡ true → holds (set met h true) v ≡ true
holds-set_keeps met h v within is = by_cases (v == h) refl
  where
    by_cases : (b : Bool) → (v == h) ≡ b → holds (set met h true) v ≡ true
    by_cases true e = subst (λ u. holds (set met h true) u ≡ true) (sym (eqb-true v h e)) (holds-set_same met h within)
    by_cases false e = get_or-set_other met h v true false (eqb-false v h e) ∙ is

-- a node that is met now was met before or is the new one
pub holds-set_only : (met : List Bool) (h v : ℕ) → holds (set met h true) v ≡ true → (holds met v ≡ true) ⊎ (h ≡ v)
holds-set_only met h v is = by_cases (v == h) refl
  where
    by_cases : (b : Bool) → (v == h) ≡ b → (holds met v ≡ true) ⊎ (h ≡ v)
    by_cases true e = inr (sym (eqb-true v h e))
    by_cases false e = inl (sym (get_or-set_other met h v true false (eqb-false v h e)) ∙ is)

-- a test does not both fail and hold
pub false_true : (b : Bool) → b ≡ false → b ≡ true → ⊥
false_true b is_no is_yes = cc

-- ---- one arc more

tree_more : (p : Parts) (takes : ArcId → Bool) (first : List Bool) (start : NodeId) (xs : List ArcId) (x : ArcId) → IsTree p takes first start xs
    → takes x ≡ true → holds first (head_of p x).0 ≢ true → (IsBefore p start xs (length xs) (head_of p x).0 → ⊥) → IsBefore p start xs (length xs) (tail_of p x).0 → IsTree p takes first start (xs ++ x ∷ [])
tree_more p takes first start xs x tree taken free is_new rooted = record {
  taken = at_each (λ i a. takes a ≡ true) xs x tree.taken taken;
  free = at_each (λ i a. holds first (head_of p a).0 ≢ true) xs x tree.free free;
  is_new = at_each (λ i a. IsBefore p start (xs ++ x ∷ []) i (head_of p a).0 → ⊥) xs x
      (λ i within h. tree.is_new i within (shorter i (omega (arith, within)) _ h))
      (λ h. is_new (shorter (length xs) (omega arith) _ h));
  rooted = at_each (λ i a. IsBefore p start (xs ++ x ∷ []) i (tail_of p a).0) xs x
      (λ i within. longer i (omega (arith, within)) _ (tree.rooted i within))
      (longer (length xs) (omega arith) _ rooted);
}
  where
    shorter : (n : ℕ) → n ≤ length xs → (v : ℕ) → IsBefore p start (xs ++ x ∷ []) n v → IsBefore p start xs n v
    shorter n room v h = before_along p start (xs ++ x ∷ []) xs n n v (omega arith) (λ i below. sym (more-before xs x i (omega (arith, below, room)))) h

    longer : (n : ℕ) → n ≤ length xs → (v : ℕ) → IsBefore p start xs n v → IsBefore p start (xs ++ x ∷ []) n v
    longer n room v h = before_along p start xs (xs ++ x ∷ []) n n v (omega arith) (λ i below. more-before xs x i (omega (arith, below, room))) h

-- going along one more arc to a node that was not met keeps the search
pub search_more : (p : Parts) (takes : ArcId → Bool) (first : List Bool) (start : NodeId) (met : List Bool) (xs : List ArcId) (x : ArcId) → IsSearch p takes first start met xs
    → takes x ≡ true → holds met (head_of p x).0 ≡ false → (head_of p x).0 < length met → IsBefore p start xs (length xs) (tail_of p x).0
    → IsSearch p takes first start (set met (head_of p x).0 true) (xs ++ x ∷ [])
search_more p takes first start met xs x search taken unmet within rooted = record {
  tree = tree_more p takes first start xs x search.tree taken
      (λ was. false_true _ unmet (search.met_first h was))
      (λ before. elim before [
        | inl is ↦ false_true _ unmet (subst (λ v. holds met v ≡ true) (sym is) (search.met_first start.0 search.start_met))
        | inr led ↦ false_true _ unmet (subst (λ v. holds met v ≡ true) led.leads (search.met_led led.place led.within))
      ])
      rooted;
  start_met = search.start_met;
  met_first = λ v was. holds-set_keeps met h v within (search.met_first v was);
  met_led = at_each (λ i a. holds (set met h true) (head_of p a).0 ≡ true) xs x
      (λ i inside. holds-set_keeps met h _ within (search.met_led i inside))
      (holds-set_same met h within);
  met_only = λ v is. elim (holds-set_only met h v is) [
    | inl was ↦ elim (search.met_only v was) [
      | inl blocked ↦ inl blocked
      | inr led ↦ inr (record {
        place = led.place;
        within = subst (λ n. led.place < n) (sym (length-more xs x)) (omega (arith, led.within));
        leads = ap (λ a. (head_of p a).0) (more-before xs x led.place led.within) ∙ led.leads;
      })
    ]
    | inr is_head ↦ inr (record {
      place = length xs;
      within = subst (λ n. length xs < n) (sym (length-more xs x)) (omega arith);
      leads = ap (λ a. (head_of p a).0) (more-last xs x) ∙ is_head;
    })
  ];
}
  where
    h : ℕ
    h = (head_of p x).0

-- ---- going along an arc

-- going along an arc to a node that was not met is an arrival
pub arrival_new : (p : Parts) (takes : ArcId → Bool) (a : ArcId) (met : List Bool) (xs : List ArcId) → takes a ≡ true → holds met (head_of p a).0 ≡ false → (head_of p a).0 < length met → IsArrival p takes a met (set met (head_of p a).0 true) xs (xs ++ a ∷ [])
arrival_new p takes a met xs taken unmet within = record {
  grows = record {
    count = length-set met (head_of p a).0 true;
    stays = λ v is. holds-set_keeps met (head_of p a).0 v within is;
    room = subst (λ n. length xs ≤ n) (sym (length-more xs a)) (omega arith);
    kept = λ i inside. more-before xs a i inside;
  };
  is_met = λ _. holds-set_same met (head_of p a).0 within;
  search = λ first start search rooted. search_more p takes first start met xs a search taken unmet within rooted;
}

-- the same with the node and the list as the code has them
pub arrival_at : (p : Parts) (takes : ArcId → Bool) (a : ArcId) (h : NodeId) (met : List Bool) (xs longer : List ArcId) → takes a ≡ true → h ≡ head_of p a → get_or met h.0 false ≡ false → h.0 < length met → longer ≡ xs ++ a ∷ [] → IsArrival p takes a met (set met h.0 true) xs longer
arrival_at p takes a h met xs longer taken is_head unmet within is_longer =
    subst (λ ys. IsArrival p takes a met (set met h.0 true) xs ys) (sym is_longer)
    (subst (λ (v : NodeId). holds met v.0 ≡ false → v.0 < length met → IsArrival p takes a met (set met v.0 true) xs (xs ++ a ∷ [])) (sym is_head)
    (arrival_new p takes a met xs taken) unmet within)
