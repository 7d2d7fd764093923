-- Lists of names that differ.
use Rattle.std.proofs.Common.{◌≡◌, ◌≢◌, ℕ, zero, suc, ◌+◌, ◌<◌, Bool, true, false, List, [], ◌∷◌, ◌++◌, length, get_or, take, refl, sym, ap, ◌∙◌, arith, nat_eq, ◌||◌, Some, map, drop, subst}
use Rattle.std.specs.List.{position_or_len}
use Rattle.std.specs.Cmp.Lexicographic.{pointwise, bytes_decides}
use Rattle.std.proofs.lemmas.Bool.{lt-ltb}
use Rattle.std.proofs.lemmas.List.{take_more, drop_more, take-append-drop, map-append}
use Rattle.std.proofs.lemmas.List.Quantifiers.{all_pairs_push}
use Rattle.std.proofs.lemmas.Bool.{true≢false}
use Rattle.snd_reader.specs.Names.{is_among, number_of}
use Rattle.snd_network.specs.WellFormed.{AreDifferent}

-- ---- equal names

-- two names have the same bytes
abbrev pub same_name : List ℕ → List ℕ → Bool
same_name a b = pointwise nat_eq a b

is-false : (b : Bool) → (b ≡ true → ⊥) → b ≡ false
is-false true h = absurd (h refl)
is-false false h = refl

-- names that differ are not found the same
pub other_name : (a b : List ℕ) → a ≢ b → same_name a b ≡ false
other_name a b h = is-false (same_name a b) (λ e. h ((bytes_decides a b).0 e))

-- a name is found the same as itself
pub own_name : (a : List ℕ) → same_name a a ≡ true
own_name a = (bytes_decides a a).1 refl

-- ---- a name among different names

different-tail : (x : List ℕ) (xs : List (List ℕ)) → AreDifferent (x ∷ xs) → AreDifferent xs
different-tail x xs h i j d lt within = h (suc i) (suc j) d (omega arith) (omega arith)

different-head : (x : List ℕ) (xs : List (List ℕ)) → AreDifferent (x ∷ xs) → (j : ℕ) → j < length xs → x ≢ get_or xs j x
different-head x xs h j within = h 0 (suc j) x (omega arith) (omega arith)

-- a name differs from those before it
pub is_new : (names more : List (List ℕ)) (name : List ℕ) → AreDifferent (names ++ name ∷ more) → is_among names name ≡ false
is_new [] more name h = refl
is_new (x ∷ names) more name h =
    let differs : name ≢ x = λ e. h 0 (suc (length names)) x (omega arith) (long names) (sym e ∙ sym (at-seam names)) in
    rw (other_name name x differs) (is_new names more name (different-tail x (names ++ name ∷ more) h))
  where
    long : (xs : List (List ℕ)) → suc (length xs) < suc (length (xs ++ name ∷ more))
    long [] = omega arith
    long (y ∷ xs) = omega (arith, long xs)

    at-seam : (xs : List (List ℕ)) → get_or (xs ++ name ∷ more) (length xs) x ≡ name
    at-seam [] = refl
    at-seam (y ∷ xs) = at-seam xs

-- a name that is none of these differs from each
other_than : (names : List (List ℕ)) (name : List ℕ) → is_among names name ≡ false → (k : ℕ) (d : List ℕ) → k < length names → get_or names k d ≢ name
other_than [] name h k d within = absurd (omega arith)
other_than (x ∷ names) name h k d within = by (λ e n l. other_than names name e n d l) (same_name name x) refl h k within
  where
    by : (is_among names name ≡ false → (n : ℕ) → n < length names → get_or names n d ≢ name) → (b : Bool) → same_name name x ≡ b → (b || is_among names name) ≡ false → (n : ℕ) → n < suc (length names) → get_or (x ∷ names) n d ≢ name
    by later true e f n l = absurd (true≢false f)
    by later false e f zero l = λ g. true≢false (sym (own_name name) ∙ ap (same_name name) (sym g) ∙ e)
    by later false e f (suc n) l = later f n (omega arith)

-- a name stands at its own number
place-own : (names : List (List ℕ)) (i : ℕ) → AreDifferent names → i < length names → position_or_len (same_name (get_or names i [])) names ≡ i
place-own [] i h within = absurd (omega arith)
place-own (x ∷ names) zero h within = rw (own_name x) refl
place-own (x ∷ names) (suc i) h within =
    let inside : i < length names = omega arith in
    let differs : get_or names i [] ≢ x = λ e. different-head x names h i inside (sym e ∙ defaults names i inside) in
    rw (other_name (get_or names i []) x differs) (let e = place-own names i (different-tail x names h) inside in omega (arith, e))
  where
    defaults : (xs : List (List ℕ)) (k : ℕ) → k < length xs → get_or xs k [] ≡ get_or xs k x
    defaults [] k l = absurd (omega arith)
    defaults (y ∷ xs) zero l = refl
    defaults (y ∷ xs) (suc k) l = defaults xs k (omega arith)

-- where names differ, the number of each is its place among them
pub own_number : (names : List (List ℕ)) (i : ℕ) → AreDifferent names → i < length names → number_of names (get_or names i []) ≡ Some i
own_number names i h within = rw (place-own names i h within, lt-ltb i (length names) within) refl

-- ---- names of items

-- one name more, which is none of those before it
pub different_more : {X : Type 0} (name : X → List ℕ) (xs : List X) (i : ℕ) (x : X) → i < length xs → x ≡ get_or xs i x → is_among (map name (take i xs)) (name x) ≡ false
    → AreDifferent (map name (take i xs)) → AreDifferent (map name (take (i + 1) xs))
different_more name xs i x within is fresh h =
    let whole : map name (take i xs) ++ name x ∷ [] ≡ map name (take (i + 1) xs) = sym (map-append name (take i xs) (x ∷ [])) ∙ ap (λ y. map name (take i xs ++ y ∷ [])) is ∙ ap (map name) (sym (take_more xs i x within)) in
    subst AreDifferent whole (all_pairs_push (λ a b. a ≢ b) (map name (take i xs)) (name x) h (other_than (map name (take i xs)) (name x) fresh))

-- a name that is one of those before it
pub not_different : {X : Type 0} (name : X → List ℕ) (xs : List X) (i : ℕ) (x : X) → i < length xs → x ≡ get_or xs i x → is_among (map name (take i xs)) (name x) ≡ true → AreDifferent (map name xs) → ⊥
not_different {X} name xs i x within is found h =
    let whole : map name (take i xs) ++ name x ∷ map name (drop (i + 1) xs) ≡ map name xs =
    sym (map-append name (take i xs) (x ∷ drop (i + 1) xs)) ∙ ap (λ y. map name (take i xs ++ y ∷ drop (i + 1) xs)) is ∙ ap (map name) (ap (λ (ys : List X). take i xs ++ ys) (sym (drop_more xs i x within)) ∙ take-append-drop i xs) in
    absurd (true≢false (sym found ∙ is_new (map name (take i xs)) (map name (drop (i + 1) xs)) (name x) (subst AreDifferent (sym whole) h)))
