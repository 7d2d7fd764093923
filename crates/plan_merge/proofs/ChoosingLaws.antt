-- Open leaves in order, and those that a part gets.
use Rattle.std.proofs.Common.{◌≡◌, ◌≢◌, ℕ, zero, suc, ◌+◌, ◌<◌, ◌≤◌, Bool, true, false, true≢false, List, [], ◌∷◌, ◌++◌, length, drop, get_or, set, replicate, Option, Some, None, refl, sym, ap, subst, ◌∙◌, arith, append_assoc, slice_index_or, ⊎_elim, inl, inr, ◌⊎◌, ℤ}
use Rattle.std.specs.Prelude.{IsTrue, if◌then◌else◌, count_by, All, ◌≤ℤ◌, ◌<ℤ◌, pos, ◌↔◌}
use Rattle.std.specs.Ordering.{nat_cmp, int_cmp, bool_cmp, ordering_then, is_lt}
use Rattle.std.specs.declared.cmp.Ordering.{Ordering}
use Rattle.std.specs.declared.cmp.Ordering.TheVariants.{Equal}
use Rattle.std.proofs.lemmas.Int.{ints}
use Rattle.std.proofs.lemmas.Cmp.{ranked, int_ranked, by_ranked}
use Rattle.std.proofs.lemmas.List.{append-nil, length-replicate, get_or-replicate, get_or-set_same, get_or-set_other}
use Rattle.std.proofs.lemmas.List.Elements.{All-nil, All-push}
use Rattle.std.proofs.lemmas.List.Sums.{sum_by-set}
use Rattle.std.proofs.lemmas.List.Folds.{sum_by-replicate}
use Rattle.proof_tree.specs.Plans.{is_open}
use Rattle.plan_merge.specs.declared.bounded_record.BoundedRecord.{BoundedRecord}
use Rattle.plan_merge.specs.declared.choosing.Part.{Part}
use Rattle.plan_merge.specs.Choosing.{Key, key_by, key_of, keys_from, IsAhead, key_at, rank_of, IsChosen, AreChosenBy}
use Rattle.plan_merge.proofs.Counting.{drop-read}

-- where the first key is no greater than the second one
abbrev pub falls : Key → Key → Bool
falls k l = is_lt (ordering_then (ordering_then (bool_cmp k.0 l.0) (int_cmp k.1 l.1)) (nat_cmp k.2 l.2))

number-then : (x y : ℕ) → is_lt (nat_cmp x y) ≡ false → y ≤ x
number-then x y h = by_ranked (x < y) (x ≡ y) (y < x) (nat_cmp x y) (ranked x y (nat_cmp x y) refl)
    (λ is _. absurd (true≢false (subst (λ z. is_lt z ≡ false) is h)))
    (λ is e. omega arith)
    (λ is more. omega arith)

bound-then : (x y : ℤ) (m n : ℕ) → is_lt (ordering_then (int_cmp x y) (nat_cmp m n)) ≡ false → (y ≤ℤ x) × (y ≡ x → n ≤ m)
bound-then x y m n h = by_ranked (x <ℤ y) (x ≡ y) (y <ℤ x) (int_cmp x y) (int_ranked x y (int_cmp x y) refl)
    (λ is _. absurd (true≢false (subst (λ z. is_lt (ordering_then z (nat_cmp m n)) ≡ false) is h)))
    (λ is e. (omega (arith, ints, e), (λ _. number-then m n (subst (λ z. is_lt (ordering_then z (nat_cmp m n)) ≡ false) is h))))
    (λ is more. (omega (arith, ints, more), (λ e. absurd (omega (arith, ints, more, e)))))

nested : (a b : Ordering) → is_lt (ordering_then (ordering_then Equal a) b) ≡ false → is_lt (ordering_then a b) ≡ false
nested a b h = h

pub ahead : (k l : Key) → falls l k ≡ false → IsAhead k l
ahead (false, bound, place) (false, other, next) h =
    let both = bound-then other bound next place h in
    record { has_bound = λ none. refl; bound = λ same. both.0; place = λ same equal. both.1 equal }
ahead (false, bound, place) (true, other, next) h =
    record { has_bound = λ none. refl; bound = λ same. absurd (let bad : false ≡ true = same in cc); place = λ same equal. absurd (let bad : false ≡ true = same in cc) }
ahead (true, bound, place) (false, other, next) h = absurd (true≢false h)
ahead (true, bound, place) (true, other, next) h =
    let both = bound-then other bound next place h in
    record { has_bound = λ some. absurd (let bad : true ≡ false = some in cc); bound = λ same. both.0; place = λ same equal. both.1 equal }

-- the keys so far, and those of the records that are left, are all keys
pub record AreKeys (xs : List BoundedRecord) (place : ℕ) (keys : List Key) : Type 0 where
  pub same : keys ++ keys_from place (drop place xs) ≡ keys_from 0 xs
  pub within : All (λ (key : Key). key.2 < length xs) keys

pub keys-none : (xs : List BoundedRecord) → AreKeys xs 0 []
keys-none xs = record { same = refl; within = All-nil (λ (key : Key). key.2 < length xs) }

pub keys-open : (xs : List BoundedRecord) (place : ℕ) (x : BoundedRecord) (keys keys' : List Key) (key : Key) → AreKeys xs place keys → place < length xs → x ≡ get_or xs place x → is_open x.node ≡ true → key ≡ key_of x place
    → keys' ≡ keys ++ key ∷ [] → AreKeys xs (place + 1) keys'
keys-open xs place x keys keys' key h within read open' is more =
    let next : suc place ≡ place + 1 = omega arith in
    let here : drop place xs ≡ x ∷ drop (place + 1) xs = drop-read xs place x within read ∙ ap (λ (n : ℕ). x ∷ drop n xs) next in
    let keys_here : keys_from place (drop place xs) ≡ key ∷ keys_from (place + 1) (drop (place + 1) xs) =
    ap (keys_from place) here ∙ ap (λ (b : Bool). (if b then key_of x place ∷ [] else []) ++ keys_from (suc place) (drop (place + 1) xs)) open' ∙ ap (λ (k : Key). k ∷ keys_from (suc place) (drop (place + 1) xs)) (sym is)
    ∙ ap (λ (n : ℕ). key ∷ keys_from n (drop (place + 1) xs)) next in
    record {
      same =
          ap (λ (ks : List Key). ks ++ keys_from (place + 1) (drop (place + 1) xs)) more ∙ append_assoc keys (key ∷ []) (keys_from (place + 1) (drop (place + 1) xs))
          ∙ sym (ap (λ (ks : List Key). keys ++ ks) keys_here) ∙ h.same;
      within = subst (All (λ (k : Key). k.2 < length xs)) (sym more) (All-push (λ (k : Key). k.2 < length xs) keys key h.within (subst (λ (k : Key). k.2 < length xs) (sym is) (place-within x.bound)));
    }
  where
    place-within : (beside : Option ℤ) → (key_by beside place).2 < length xs
    place-within None = within
    place-within (Some bound) = within

pub keys-closed : (xs : List BoundedRecord) (place : ℕ) (x : BoundedRecord) (keys : List Key) → AreKeys xs place keys → place < length xs → x ≡ get_or xs place x → is_open x.node ≡ false → AreKeys xs (place + 1) keys
keys-closed xs place x keys h within read closed =
    let next : suc place ≡ place + 1 = omega arith in
    let here : drop place xs ≡ x ∷ drop (place + 1) xs = drop-read xs place x within read ∙ ap (λ (n : ℕ). x ∷ drop n xs) next in
    let keys_here : keys_from place (drop place xs) ≡ keys_from (place + 1) (drop (place + 1) xs) =
    ap (keys_from place) here ∙ ap (λ (b : Bool). (if b then key_of x place ∷ [] else []) ++ keys_from (suc place) (drop (place + 1) xs)) closed ∙ ap (λ (n : ℕ). keys_from n (drop (place + 1) xs)) next in
    record { same = sym (ap (λ (ks : List Key). keys ++ ks) keys_here) ∙ h.same; within = h.within }

pub keys-all : (xs : List BoundedRecord) (place : ℕ) (keys : List Key) → AreKeys xs place keys → length xs ≤ place → keys ≡ keys_from 0 xs
keys-all xs place keys h past = sym (append-nil keys) ∙ sym (ap (λ (ys : List BoundedRecord). keys ++ keys_from place ys) (drop_past place xs past)) ∙ h.same
  where
    drop_past : (n : ℕ) (ys : List BoundedRecord) → length ys ≤ n → drop n ys ≡ []
    drop_past zero [] l = refl
    drop_past zero (y ∷ ys) l = absurd (omega arith)
    drop_past (suc n) [] l = refl
    drop_past (suc n) (y ∷ ys) l = drop_past n ys (omega arith)

-- in so many turns the part gets these, and no more than there were turns
pub record AreChosenSoFar (order : List Key) (part : Part) (turns count : ℕ) (chosen : List Bool) : Type 0 where
  pub chosen_by : AreChosenBy order part turns count chosen
  pub few : count_by (λ (one : Bool). one) chosen ≤ turns

no_more : (order : List Key) (part : Part) (place : ℕ) → IsChosen order part 0 place → ⊥
no_more order part place h = let w = h.within in absurd (omega (arith, w))

pub chosen-none : (order : List Key) (part : Part) (count : ℕ) → AreChosenSoFar order part 0 count (replicate count false)
chosen-none order part count = record {
  chosen_by = record {
    count_is = length-replicate count false;
    each = λ place within. (
      (λ is. absurd (let bad : false ≡ true = sym (get_or-replicate count place false false within) ∙ is in cc)),
      (λ is. absurd (no_more order part place is)),
    );
  };
  few = let sum = sum_by-replicate (λ (one : Bool). if one then 1 else 0) count false in omega (arith, sum);
}

earlier : (order : List Key) (part : Part) (turn place : ℕ) → IsChosen order part turn place → IsChosen order part (turn + 1) place
earlier order part turn place h = record { turn = h.turn; within = (let w = h.within in omega (arith, w)); some = h.some; is_place = h.is_place }

last-or-earlier : (a turn : ℕ) → a < turn + 1 → (a < turn) ⊎ (a ≡ turn)
last-or-earlier a turn h = less_or a turn (omega arith)
  where
    less_or : (x y : ℕ) → x ≤ y → (x < y) ⊎ (x ≡ y)
    less_or zero zero l = inr refl
    less_or zero (suc y) l = inl (omega arith)
    less_or (suc x) zero l = absurd (omega arith)
    less_or (suc x) (suc y) l = ⊎_elim (λ (h' : x < y). inl (omega arith)) (λ (e : x ≡ y). inr (ap suc e)) (less_or x y (omega arith))

-- a turn in which the part gets no leaf
pub chosen-past : (order : List Key) (part : Part) (turn count : ℕ) (chosen : List Bool) → AreChosenSoFar order part turn count chosen → length order ≤ rank_of part turn → AreChosenSoFar order part (turn + 1) count chosen
chosen-past order part turn count chosen h past = record {
  chosen_by = record {
    count_is = h.chosen_by.count_is;
    each = λ place within. (
      (λ is. earlier order part turn place ((h.chosen_by.each place within).0 is)),
      (λ is. (h.chosen_by.each place within).1 (before place is)),
    );
  };
  few = (let f = h.few in omega (arith, f));
}
  where
    before : (place : ℕ) → IsChosen order part (turn + 1) place → IsChosen order part turn place
    before place is = ⊎_elim
        (λ (less : is.turn < turn). record { turn = is.turn; within = less; some = is.some; is_place = is.is_place })
        (λ (same : is.turn ≡ turn). absurd (let s = subst (λ (t : ℕ). rank_of part t < length order) same is.some in omega (arith, s, past)))
        (last-or-earlier is.turn turn is.within)

-- a turn in which it gets one
pub chosen-next : (order : List Key) (part : Part) (turn count : ℕ) (chosen chosen' : List Bool) (place : ℕ) → AreChosenSoFar order part turn count chosen → rank_of part turn < length order
    → (key_at order (rank_of part turn)).2 ≡ place → place < count → chosen' ≡ set chosen place true → AreChosenSoFar order part (turn + 1) count chosen'
chosen-next order part turn count chosen chosen' place h some is_place within is = subst (AreChosenSoFar order part (turn + 1) count) (sym is) (record {
  chosen_by = record {
    count_is = length-set_same chosen place ∙ h.chosen_by.count_is;
    each = λ other inside. each-of other inside;
  };
  few = (
      let sum = sum_by-set (λ (one : Bool). if one then 1 else 0) chosen place true false (subst (λ (n : ℕ). place < n) (sym h.chosen_by.count_is) within) in
      let f = h.few in
      omega (arith, sum, f));
})
  where
    length-set_same : (xs : List Bool) (i : ℕ) → length (set xs i true) ≡ length xs
    length-set_same [] i = refl
    length-set_same (x ∷ xs) zero = refl
    length-set_same (x ∷ xs) (suc i) = ap suc (length-set_same xs i)

    number_same : (a b : ℕ) → (a ≡ b) ⊎ (a ≢ b)
    number_same zero zero = inl refl
    number_same zero (suc b) = inr (λ e. omega (arith, e))
    number_same (suc a) zero = inr (λ e. omega (arith, e))
    number_same (suc a) (suc b) = ⊎_elim (λ (e : a ≡ b). inl (ap suc e)) (λ (ne : a ≢ b). inr (λ e. ne (omega (arith, e)))) (number_same a b)

    each-of : (other : ℕ) → other < count → IsTrue (slice_index_or (set chosen place true) other false) ↔ IsChosen order part (turn + 1) other
    each-of other inside = ⊎_elim
        (λ (e : other ≡ place). (
          (λ _. record { turn = turn; within = omega arith; some = some; is_place = is_place ∙ sym e }),
          (λ _. subst (λ (i : ℕ). slice_index_or (set chosen place true) i false ≡ true) (sym e) (get_or-set_same chosen place true false (subst (λ (n : ℕ). place < n) (sym h.chosen_by.count_is) within))),
        ))
        (λ (ne : other ≢ place). (
          (λ t. earlier order part turn other ((h.chosen_by.each other inside).0 (sym (get_or-set_other chosen place other true false ne) ∙ t))),
          (λ t. get_or-set_other chosen place other true false ne ∙ (h.chosen_by.each other inside).1 (⊎_elim
              (λ (less : t.turn < turn). record { turn = t.turn; within = less; some = t.some; is_place = t.is_place })
              (λ (same : t.turn ≡ turn). absurd (ne (sym t.is_place ∙ ap (λ (k : ℕ). (key_at order (rank_of part k)).2) same ∙ is_place)))
              (last-or-earlier t.turn turn t.within))),
        ))
        (number_same other place)

-- what is sorted is in order
pub sorted-ahead : (order : List Key) → ((k : ℕ) (d : Key) → 0 ≤ k → k + 1 < length order → falls (slice_index_or order (k + 1) d) (slice_index_or order k d) ≡ false)
    → (rank : ℕ) → suc rank < length order → IsAhead (key_at order rank) (key_at order (suc rank))
sorted-ahead order sorted rank within =
    let next : rank + 1 ≡ suc rank = omega arith in
    subst (λ (n : ℕ). IsAhead (key_at order rank) (key_at order n)) next (ahead (key_at order rank) (key_at order (rank + 1)) (sorted rank (false, pos 0, 0) (omega arith) (omega (arith, within))))
