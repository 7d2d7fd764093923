-- Decks that are put into the order of their numbers.
use Rattle.std.proofs.Common.{◌≡◌, ◌≢◌, ℕ, suc, ◌+◌, ◌<◌, ◌≤◌, ◌⊎◌, inl, inr, ⊎_elim, Bool, true, false, ◌==◌, if◌then◌else◌, List, [], ◌∷◌, ◌++◌, length, map, refl, ap, sym, subst, ◌∙◌, arith, slice_get, get_or, Some, sum_by, Contains, IsPermutation}
use Rattle.std.specs.Bool.{⊤}
use Rattle.std.specs.List.{flat_map}
use Rattle.std.specs.List.Sorted.{IsNonDecreasingBy}
use Rattle.std.proofs.lemmas.Bool.{eqb-true, eqb-false}
use Rattle.std.proofs.lemmas.List.Sums.{sum_by-cons}
use Rattle.std.proofs.lemmas.List.Sorted.{IsPermutation-sym, Contains-permutation, length_permutation, sum_by-IsPermutation}
use Rattle.std.proofs.lemmas.Option.{slice_get-get_or, slice_get_within, get_or_from_slice_get}
use Rattle.block_deques.specs.declared.block.Block.{Block}
use Rattle.block_deques.specs.declared.deck.Deck.{Deck}
use Rattle.block_deques.specs.Hands.{weigh}
use Rattle.block_deques.specs.Decks.{deck_id, number_of}
use Rattle.block_deques.specs.Wholes.{AreOneMaking, HaveSame, IsEachOnce, one_at}
use Rattle.block_deques.specs.Gathers.{adds}
use Rattle.block_deques.proofs.Moves.{weigh-append}
use Rattle.block_deques.proofs.Places.{some_same, map_got}

-- the numbers do not fall, from this one on
abbrev Climbs : ℕ → List ℕ → Type 0
Climbs low [] = ⊤
Climbs low (x ∷ xs) = (low ≤ x) × Climbs x xs

abbrev unit : Bool → ℕ
unit is = if is then 1 else 0

-- 1 at this number, and 0 at others
abbrev hit : ℕ → ℕ → ℕ
hit t x = unit (x == t)

hit_cases : (t x : ℕ) → ((x ≡ t) × (hit t x ≡ 1)) ⊎ ((x ≢ t) × (hit t x ≡ 0))
hit_cases t x = by_test (x == t) refl
  where
    by_test : (p : Bool) → (x == t) ≡ p → ((x ≡ t) × (unit p ≡ 1)) ⊎ ((x ≢ t) × (unit p ≡ 0))
    by_test true e = inl (eqb-true x t e, refl)
    by_test false e = inr (eqb-false x t e, refl)

none_below : (low t : ℕ) (xs : List ℕ) → Climbs low xs → t < low → adds (hit t) xs ≡ 0
none_below low t [] climbs less = refl
none_below low t (x ∷ xs) climbs less =
    let above = climbs.0 in
    let rest = none_below x t xs climbs.1 (omega arith) in ⊎_elim
    (λ (y : (x ≡ t) × (hit t x ≡ 1)). let e = y.0 in absurd (omega arith))
    (λ (n : (x ≢ t) × (hit t x ≡ 0)). let z = n.1 in omega arith)
    (hit_cases t x)

hit_itself : (x : ℕ) → hit x x ≡ 1
hit_itself x = ⊎_elim (λ (y : (x ≡ x) × (hit x x ≡ 1)). y.1) (λ (n : (x ≢ x) × (hit x x ≡ 0)). absurd (n.0 refl)) (hit_cases x x)

order_cases : (x y : ℕ) → (x < y) ⊎ ((x ≡ y) ⊎ (y < x))
order_cases x y = grind arith

-- lists that climb and weigh the same are one list
same_climb : (a b : ℕ) (xs ys : List ℕ) → Climbs a xs → Climbs b ys → ((f : ℕ → ℕ) → adds f xs ≡ adds f ys) → xs ≡ ys
same_climb a b [] [] p q same = refl
same_climb a b [] (y ∷ ys) p q same = let s : 0 ≡ 1 + adds (λ _. 1) ys = same (λ _. 1) in absurd (omega arith)
same_climb a b (x ∷ xs) [] p q same = let s : 1 + adds (λ _. 1) xs ≡ 0 = same (λ _. 1) in absurd (omega arith)
same_climb a b (x ∷ xs) (y ∷ ys) p q same = ⊎_elim
    (λ (l : x < y). let s : hit x x + adds (hit x) xs ≡ hit x y + adds (hit x) ys = same (hit x) in
    let i = hit_itself x in
    let n : hit x y + adds (hit x) ys ≡ 0 = none_below y x (y ∷ ys) (omega arith, q.1) l in absurd (omega arith))
    (λ (m : (x ≡ y) ⊎ (y < x)). ⊎_elim
    (λ (e : x ≡ y).
    let rest : xs ≡ ys = same_climb x y xs ys p.1 q.1 (λ f. let s : f x + adds f xs ≡ f y + adds f ys = same f in let g = ap f e in omega arith) in
    ap (λ u. u ∷ xs) e ∙ ap (λ us. y ∷ us) rest)
    (λ (l : y < x). let s : hit y x + adds (hit y) xs ≡ hit y y + adds (hit y) ys = same (hit y) in
    let i = hit_itself y in
    let n : hit y x + adds (hit y) xs ≡ 0 = none_below x y (x ∷ xs) (omega arith, p.1) l in absurd (omega arith))
    m)
    (order_cases x y)

-- items whose numbers do not fall
climbs_by : (n : Deck → ℕ) (low : ℕ) (xs : List Deck) → ((d : Deck) → 0 < length xs → low ≤ n (get_or xs 0 d)) → ((k m : ℕ) (d : Deck) → m ≡ k + 1 → m < length xs → n (get_or xs k d) ≤ n (get_or xs m d)) → Climbs low (map n xs)
climbs_by n low [] first next = tt
climbs_by n low (x ∷ xs) first next = (first x (omega arith), climbs_by n (n x) xs (λ d l. next 0 1 d (omega arith) (omega arith)) (λ k m d e l. next (suc k) (suc m) d (omega arith) (omega arith)))

adds_map : (f : ℕ → ℕ) (n : Deck → ℕ) (xs : List Deck) → adds f (map n xs) ≡ sum_by (λ x. f (n x)) xs
adds_map f n [] = refl
adds_map f n (x ∷ xs) = let r = adds_map f n xs in let c = sum_by-cons (λ z. f (n z)) x xs in omega arith

lists_same : (xs ys : List Deck) → length xs ≡ length ys → ((k : ℕ) (x y : Deck) → slice_get xs k ≡ Some x → slice_get ys k ≡ Some y → x ≡ y) → xs ≡ ys
lists_same [] [] long same = refl
lists_same [] (y ∷ ys) long same = absurd (omega arith)
lists_same (x ∷ xs) [] long same = absurd (omega arith)
lists_same (x ∷ xs) (y ∷ ys) long same =
    let first : x ≡ y = same 0 x y refl refl in
    let rest : xs ≡ ys = lists_same xs ys (omega arith) (λ k u v a b. same (suc k) u v a b) in
    ap (λ u. u ∷ xs) first ∙ ap (λ us. y ∷ us) rest

number_there : (ds : List Deck) (k : ℕ) (d : Deck) → AreOneMaking ds → slice_get ds k ≡ Some d → number_of d ≡ k
number_there ds k d making at = making.numbers k (deck_id d) (map_got deck_id ds k d at)

-- all decks of one making, put into the order of their numbers, are so in their order
pub in_order : (ds sorted : List Deck) → AreOneMaking ds → IsPermutation ds sorted → IsNonDecreasingBy number_of sorted → AreOneMaking sorted
in_order ds sorted making moved climbs = subst AreOneMaking (sym same) making
  where
    long : length sorted ≡ length ds
    long = length_permutation ds sorted moved

    numbers : map number_of sorted ≡ map number_of ds
    numbers = same_climb 0 0 (map number_of sorted) (map number_of ds)
        (climbs_by number_of 0 sorted (λ d l. omega arith) (λ k m d e l. climbs k m d (omega arith) l))
        (climbs_by number_of 0 ds (λ d l. omega arith) (λ k m d e l.
        let a = number_there ds k (get_or ds k d) making (slice_get-get_or ds k d (omega arith)) in
        let b = number_there ds m (get_or ds m d) making (slice_get-get_or ds m d l) in omega arith))
        (λ f. let a = adds_map f number_of sorted in let b = adds_map f number_of ds in let c = sum_by-IsPermutation (λ z. f (number_of z)) ds sorted moved in omega arith)

    at_place : (k : ℕ) (x y : Deck) → slice_get sorted k ≡ Some x → slice_get ds k ≡ Some y → x ≡ y
    at_place k x y atx aty =
        let here : Contains sorted x = (k, slice_get_within sorted k x atx, get_or_from_slice_get sorted k x x atx) in
        let there : Contains ds x = Contains-permutation sorted ds x (IsPermutation-sym ds sorted moved) here in
        let at : slice_get ds there.0 ≡ Some x = slice_get-get_or ds there.0 x there.1 ∙ ap (λ u. Some u) there.2 in
        let a = number_there ds there.0 x making at in
        let b = number_there ds k y making aty in
        let same_number : number_of x ≡ number_of y = some_same (number_of x) (number_of y) (sym (map_got number_of sorted k x atx) ∙ ap (λ us. slice_get us k) numbers ∙ map_got number_of ds k y aty) in
        let place : there.0 ≡ k = omega arith in
        some_same x y (sym at ∙ ap (slice_get ds) place ∙ aty)

    same : sorted ≡ ds
    same = lists_same sorted ds long at_place

weigh_flat : (h : Block → ℕ) (f : Deck → List Block) (ds : List Deck) → weigh h (flat_map f ds) ≡ sum_by (λ d. weigh h (f d)) ds
weigh_flat h f [] = refl
weigh_flat h f (d ∷ ds) = let r = weigh_flat h f ds in let c = sum_by-cons (λ z. weigh h (f z)) d ds in omega (arith, weigh-append h (f d) (flat_map f ds))

weigh_moved : (h : Block → ℕ) (f : Deck → List Block) (ds es : List Deck) → IsPermutation ds es → weigh h (flat_map f es) ≡ weigh h (flat_map f ds)
weigh_moved h f ds es moved = weigh_flat h f es ∙ sum_by-IsPermutation (λ d. weigh h (f d)) ds es moved ∙ sym (weigh_flat h f ds)

-- in another order the decks have put and taken the same
pub same_moved : (put taken : Deck → List Block) (ds es : List Deck) (left : List Block) → IsPermutation ds es → HaveSame (flat_map put es) (flat_map taken es ++ left) → HaveSame (flat_map put ds) (flat_map taken ds ++ left)
same_moved put taken ds es left moved same h =
    let p = weigh_moved h put ds es moved in
    let t = weigh_moved h taken ds es moved in
    let s = same h in omega (arith, weigh-append h (flat_map taken es) left, weigh-append h (flat_map taken ds) left)

-- blocks that each occur once in some decks do so in another order of the decks
pub once_moved : (put : Deck → List Block) (ds es : List Deck) → IsPermutation ds es → IsEachOnce (flat_map put es) → IsEachOnce (flat_map put ds)
once_moved put ds es moved once deck index =
    let o = once deck index in
    let w = weigh_moved (one_at deck index) put ds es moved in omega arith
