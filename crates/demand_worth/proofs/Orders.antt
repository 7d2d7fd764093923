-- Surcharges in order: those on a place stand together, in the order of their demands.
use Rattle.std.proofs.Common.{◌≡◌, ℕ, suc, ◌+◌, ◌-◌, ◌<◌, ◌≤◌, ◌⊎◌, inl, inr, Bool, true, false, List, [], ◌∷◌, ◌++◌, length, take, drop, filter, eqb, IsTrue, refl, ap, sym, ◌∙◌, arith}
use Rattle.std.proofs.lemmas.Bool.{eqb-true, eq-eqb, ne_eqb}
use Rattle.std.proofs.lemmas.Bool.Decides.{nat_tests}
use Rattle.std.proofs.lemmas.List.Elements.{All-get_or, All-push, filter_passes, filter-append}
use Rattle.std.proofs.lemmas.List.{length-take, length-drop, get_or-take, get_or-drop, get_or_push, get_or_append_left, get_or_default, take-append-drop, append-nil, length_push}
use Rattle.std.proofs.lemmas.List.Kept.{AllPairs-filter}
use Rattle.std.proofs.lemmas.List.Quantifiers.{all_pairs_push}
use Rattle.demand_worth.specs.declared.limits.TheConstants.{MAX_SURCHARGES}
use Rattle.demand_worth.specs.declared.surcharges.Surcharge.{Surcharge}
use Rattle.demand_worth.specs.Surcharges.{no_surcharge, surcharge_at, comes_before, AreSurcharges, on_place}

by_order : (x y : ℕ) → (x ≤ y) ⊎ (y < x)
by_order x y = grind arith

earlier_place : (a b : Surcharge) → IsTrue (comes_before a b) → a.place ≤ b.place
earlier_place a b before = grind (arith, nat_tests)

-- one that comes before another comes before what comes after that
pub comes_before-trans : (a b next : Surcharge) → IsTrue (comes_before a b) → IsTrue (comes_before b next) → IsTrue (comes_before a next)
comes_before-trans a b next one other = grind (arith, nat_tests)

-- one before another at the same place is of an earlier demand
earlier_demand : (a b : Surcharge) (q : ℕ) → IsTrue (comes_before a b) → a.place ≡ q → b.place ≡ q → a.demand.0 < b.demand.0
earlier_demand a b q before is_a is_b = grind (arith, nat_tests)

at_place : (list : List Surcharge) (q i : ℕ) → i < length (on_place list q) → (surcharge_at (on_place list q) i).place ≡ q
at_place list q i within = eqb-true _ _ (All-get_or (λ (s : Surcharge). eqb s.place q ≡ true) (on_place list q) i no_surcharge within (filter_passes (λ (s : Surcharge). eqb s.place q) list))

-- the demands on a place ascend
pub demands-ascend : (list : List Surcharge) (q i j : ℕ) → AreSurcharges list → i < j → j < length (on_place list q) → (surcharge_at (on_place list q) i).demand.0 < (surcharge_at (on_place list q) j).demand.0
demands-ascend list q i j are before within =
    earlier_demand (surcharge_at (on_place list q) i) (surcharge_at (on_place list q) j) q
    (AllPairs-filter (λ a b. IsTrue (comes_before a b)) (λ (s : Surcharge). eqb s.place q) list are.in_order i j no_surcharge before within)
    (at_place list q i (omega arith)) (at_place list q j within)

-- places never fall
pub places-rise : (list : List Surcharge) (i j : ℕ) → AreSurcharges list → i ≤ j → j < length list → (surcharge_at list i).place ≤ (surcharge_at list j).place
places-rise list i j are le within =
    elim (by_order j i) [
      | inl same ↦ (let is : i ≡ j = omega arith in rw is (omega arith))
      | inr less ↦ earlier_place (surcharge_at list i) (surcharge_at list j) (are.in_order i j no_surcharge less within)
    ]

-- where one is on a place below a limit, so are those before it
pub places-below : (list : List Surcharge) (middle limit i : ℕ) → AreSurcharges list → middle < length list → (surcharge_at list middle).place < limit → i < middle + 1 → (surcharge_at list i).place < limit
places-below list middle limit i are within below before = omega (arith, places-rise list i middle are (omega arith) within, below)

-- where it is not, neither are those after it
pub places-from : (list : List Surcharge) (middle limit i : ℕ) → AreSurcharges list → limit ≤ (surcharge_at list middle).place → middle ≤ i → i < length list → limit ≤ (surcharge_at list i).place
places-from list middle limit i are from after within = omega (arith, places-rise list middle i are after within, from)

filter-none : (test : Surcharge → Bool) (xs : List Surcharge) → ((i : ℕ) → i < length xs → test (surcharge_at xs i) ≡ false) → filter test xs ≡ []
filter-none test [] fails = refl
filter-none test (x ∷ xs) fails = rw (let here : test x ≡ false = fails 0 (omega arith) in here) (filter-none test xs (λ i within. fails (suc i) (omega (arith, within))))

filter-all : (test : Surcharge → Bool) (xs : List Surcharge) → ((i : ℕ) → i < length xs → test (surcharge_at xs i) ≡ true) → filter test xs ≡ xs
filter-all test [] passes = refl
filter-all test (x ∷ xs) passes = rw (let here : test x ≡ true = passes 0 (omega arith) in here) (ap (λ rest. x ∷ rest) (filter-all test xs (λ i within. passes (suc i) (omega (arith, within)))))

-- those on a place are the ones between those on earlier and on later places
pub on_place-slice : (list : List Surcharge) (q first end : ℕ) → first ≤ end → end ≤ length list → ((i : ℕ) → i < first → (surcharge_at list i).place < q) → ((i : ℕ) → first ≤ i → i < length list → q ≤ (surcharge_at list i).place)
    → ((i : ℕ) → i < end → (surcharge_at list i).place < q + 1) → ((i : ℕ) → end ≤ i → i < length list → q + 1 ≤ (surcharge_at list i).place) → take (end - first) (drop first list) ≡ on_place list q
on_place-slice list q first end order within below from before past =
    let test = λ (s : Surcharge). eqb s.place q in
    let rest = drop first list in
    let here = take (end - first) rest in
    let later = drop (end - first) rest in
    let long : length rest ≡ length list - first = length-drop first list in
    let none = filter-none test (take first list) (λ i inside. let short = length-take first list in rw (get_or-take first list i no_surcharge (omega (arith, short, inside))) (ne_eqb _ _ (λ is. absurd (omega (arith, below i (omega (arith, short, inside)), is))))) in
    let all = filter-all test here (λ i inside. let short = length-take (end - first) rest in
    let at : surcharge_at here i ≡ surcharge_at list (first + i) = get_or-take (end - first) rest i no_surcharge (omega (arith, short, inside)) ∙ get_or-drop first list i no_surcharge in
    rw at (eq-eqb _ _ (let low = from (first + i) (omega arith) (omega (arith, short, inside, long)) in let high = before (first + i) (omega (arith, short, inside)) in omega (arith, low, high)))) in
    let others = filter-none test later (λ i inside. let left = length-drop (end - first) rest in
    let at : surcharge_at later i ≡ surcharge_at list (first + (end - first + i)) = get_or-drop (end - first) rest i no_surcharge ∙ get_or-drop first list (end - first + i) no_surcharge in
    rw at (ne_eqb _ _ (λ is. absurd (let high = past (first + (end - first + i)) (omega arith) (omega (arith, left, inside, long)) in omega (arith, high, is))))) in
    let parts = filter-append test (take first list) rest in
    let ends = filter-append test here later in
    let split : filter test list ≡ filter test (take first list) ++ filter test rest = ap (filter test) (sym (take-append-drop first list)) ∙ parts in
    let front : filter test list ≡ filter test rest = rw none at split in
    let ending : filter test rest ≡ filter test here ++ filter test later = ap (filter test) (sym (take-append-drop (end - first) rest)) ∙ ends in
    let back : filter test rest ≡ here ++ [] = ending ∙ ap (λ xs. xs ++ filter test later) all ∙ ap (λ xs. here ++ xs) others in
    sym (front ∙ back ∙ append-nil here)

-- so those on earlier places end where those on later ones begin, or before
pub ends-in-order : (list : List Surcharge) (q first end : ℕ) → first ≤ length list → ((i : ℕ) → i < first → (surcharge_at list i).place < q) → ((i : ℕ) → end ≤ i → i < length list → q + 1 ≤ (surcharge_at list i).place) → first ≤ end
ends-in-order list q first end within below past =
    elim (by_order first end) [ inl le ↦ le | inr more ↦ absurd (omega (arith, below end more, past end (omega arith) (omega arith))) ]

-- what comes after the last comes after all
pub follows-last : (list : List Surcharge) (next : Surcharge) → AreSurcharges list → IsTrue (comes_before (surcharge_at list (length list - 1)) next) → (i : ℕ) → i < length list → IsTrue (comes_before (surcharge_at list i) next)
follows-last list next are after i within =
    elim (by_order (length list - 1) i) [
      | inl last ↦ (let is : i ≡ length list - 1 = omega arith in rw is after)
      | inr earlier ↦ comes_before-trans (surcharge_at list i) (surcharge_at list (length list - 1)) next (are.in_order i (length list - 1) no_surcharge earlier (omega arith)) after
    ]

-- what may stand behind
pub AreSurcharges-push : (list : List Surcharge) (next : Surcharge) → AreSurcharges list → length list < MAX_SURCHARGES → 1 ≤ next.number → ((i : ℕ) → i < length list → IsTrue (comes_before (surcharge_at list i) next)) → AreSurcharges (list ++ next ∷ [])
AreSurcharges-push list next are few positive after = record {
  few = omega (arith, few, length_push list next);
  positive = All-push (λ (s : Surcharge). 1 ≤ s.number) list next are.positive positive;
  in_order = all_pairs_push (λ a b. IsTrue (comes_before a b)) list next are.in_order (λ k d within. rw (get_or_default list k d no_surcharge within) (after k within));
}

-- what stands behind may
pub AreSurcharges-pushed : (list : List Surcharge) (next : Surcharge) → AreSurcharges (list ++ next ∷ []) → (length list < MAX_SURCHARGES) × (1 ≤ next.number) × ((i : ℕ) → i < length list → IsTrue (comes_before (surcharge_at list i) next))
AreSurcharges-pushed list next are =
    let long = length_push list next in
    let last : surcharge_at (list ++ next ∷ []) (length list) ≡ next = get_or_push list next no_surcharge (length list) refl in (
      omega (arith, long, are.few),
      rw last at (All-get_or (λ (s : Surcharge). 1 ≤ s.number) (list ++ next ∷ []) (length list) no_surcharge (omega (arith, long)) are.positive),
      λ i within. let before : surcharge_at (list ++ next ∷ []) i ≡ surcharge_at list i = get_or_append_left list (next ∷ []) no_surcharge i within in
          rw (before, last) at (are.in_order i (length list) no_surcharge within (omega (arith, long))),
    )

-- those on a place, between two counts of those below limits
pub on_place-between : (list : List Surcharge) (q low high first end : ℕ) → low ≡ q → high ≡ q + 1 → first ≤ length list → end ≤ length list
    → ((i : ℕ) → i < first → (surcharge_at list i).place < low) → ((i : ℕ) → first ≤ i → i < length list → low ≤ (surcharge_at list i).place)
    → ((i : ℕ) → i < end → (surcharge_at list i).place < high) → ((i : ℕ) → end ≤ i → i < length list → high ≤ (surcharge_at list i).place) → take (end - first) (drop first list) ≡ on_place list q
on_place-between list q low high first end low_is high_is first_in end_in below from before past =
    let later : (i : ℕ) → end ≤ i → i < length list → q + 1 ≤ (surcharge_at list i).place = λ i after inside. omega (arith, past i after inside, high_is) in
    let earlier : (i : ℕ) → i < first → (surcharge_at list i).place < q = λ i inside. omega (arith, below i inside, low_is) in
    on_place-slice list q first end (ends-in-order list q first end first_in earlier later) end_in earlier (λ i after inside. omega (arith, from i after inside, low_is)) (λ i inside. omega (arith, before i inside, high_is)) later
