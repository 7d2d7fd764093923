-- What a place keeps of the paths that were found: their prices, as lengths.
use Rattle.std.proofs.Common.{◌≡◌, ℕ, zero, suc, ◌<◌, true, false, List, [], ◌∷◌, length, get_or, set, replicate, map, Option, Some, None, slice_get, refl, sym, ap, subst, ◌∙◌, arith, sum_by}
use Rattle.std.specs.Prelude.{IsSome, IfSome, ◌↔◌}
use Rattle.std.proofs.lemmas.List.{length-replicate}
use Rattle.std.proofs.lemmas.List.Sums.{sum_by-cons}
use Rattle.std.proofs.lemmas.Option.{slice_get_within, get_or_from_slice_get}
use Rattle.plan_base.specs.declared.ids.BranchId.{BranchId}
use Rattle.plan_base.specs.declared.ids.DemandId.{DemandId}
use Rattle.plan_base.specs.First.{first_in, fault_at}
use Rattle.plan_base.specs.Faults.{demand_id}
use Rattle.plan_base.proofs.FirstFault.{none-first_fault, first_in-here, none-first_in, fault_at-get_or}
use Rattle.bound_assembly.specs.Rounds.{RoundState, length_at, HasLength, gap_of as length_gap, left_in, IsFirstLeft, restarted, with_length}
use Rattle.bound_assembly.proofs.Gaps.{left_none-full}
use Rattle.search_machine.specs.declared.tree.Found.{Found}
use Rattle.search_machine.specs.State.{gap_of}
use Rattle.search_machine.specs.Changes.{gap_at}
use Rattle.search_nodes.specs.Rounds.{price_in, IsKeptRound}

-- as many demands are left in the lengths as in the list of what was found
left-map : (found : List (Option Found)) → left_in (map price_in found) ≡ sum_by gap_of found
left-map [] = refl
left-map (None ∷ found) = omega (arith, sum_by-cons length_gap None (map price_in found), sum_by-cons gap_of None found, left-map found)
left-map (Some x ∷ found) = omega (arith, sum_by-cons length_gap (Some x.price) (map price_in found), sum_by-cons gap_of (Some x) found, left-map found)

-- there are as many lengths as entries of what was found
pub length-map_price : (found : List (Option Found)) → length (map price_in found) ≡ length found
length-map_price [] = refl
length-map_price (x ∷ found) = ap suc (length-map_price found)

-- the length of a demand is the price of its path, if one was found
pub at-map : (found : List (Option Found)) (k : ℕ) → length_at (map price_in found) k ≡ price_in (get_or found k None)
at-map [] k = refl
at-map (x ∷ found) zero = refl
at-map (x ∷ found) (suc k) = at-map found k

map-none : (n : ℕ) → replicate n None ≡ map price_in (replicate n None)
map-none zero = refl
map-none (suc n) = ap (λ (xs : List (Option ℕ)). None ∷ xs) (map-none n)

map-put : (found : List (Option Found)) (k : ℕ) (x : Found) → set (map price_in found) k (Some x.price) ≡ map price_in (set found k (Some x))
map-put [] k x = refl
map-put (y ∷ found) zero x = refl
map-put (y ∷ found) (suc k) x = ap (λ (xs : List (Option ℕ)). price_in y ∷ xs) (map-put found k x)

-- as many demands are left in the lengths of a place as have no path found
pub left_of_kept : (lengths : RoundState) (found : List (Option Found)) → IsKeptRound lengths found → left_in lengths.lengths ≡ sum_by gap_of found
left_of_kept lengths found kept = ap left_in kept.same ∙ left-map found

-- a demand with a length is priced
gap_at-length : (k : ℕ) (o : Option Found) → IsSome (price_in o) → gap_at k o ≡ None
gap_at-length k None has = absurd (let bad : false ≡ true = has in cc)
gap_at-length k (Some x) has = refl

gap_at-gap : (k : ℕ) (o : Option Found) → price_in o ≡ None → gap_at k o ≡ Some (demand_id k)
gap_at-gap k None none = refl
gap_at-gap k (Some x) none = absurd (cc)

gap_at-full : (found : List (Option Found)) (k : ℕ) → k < length found → HasLength (map price_in found) k → fault_at gap_at found k ≡ None
gap_at-full found k within has =
    fault_at-get_or gap_at found k None within ∙ gap_at-length k (get_or found k None) (subst IsSome (at-map found k) has)

first_gap-some : (found : List (Option Found)) (k : DemandId) → IsFirstLeft (map price_in found) k.0 → first_in gap_at found ≡ Some k
first_gap-some found k first =
    let within : k.0 < length found = subst (λ (n : ℕ). k.0 < n) (length-map_price found) first.within in
    let before = none-first_fault (fault_at gap_at found) k.0 (λ j below. gap_at-full found j (omega arith) (first.before j below)) in
    let here : gap_at k.0 (get_or found k.0 None) ≡ Some (demand_id k.0) = gap_at-gap k.0 (get_or found k.0 None) (sym (at-map found k.0) ∙ first.without) in
    first_in-here gap_at found (demand_id k.0) k.0 None within before here

first_gap-none : (found : List (Option Found)) → left_in (map price_in found) ≡ 0 → first_in gap_at found ≡ None
first_gap-none found none =
    none-first_in gap_at found (λ i x is.
    let within = slice_get_within found i x is in
    let size = length-map_price found in
    let has : HasLength (map price_in found) i = left_none-full (map price_in found) i none (omega arith) in
    let read : get_or found i None ≡ x = get_or_from_slice_get found i x None is in
    gap_at-length i x (subst (λ (o : Option Found). IsSome (price_in o)) read (subst IsSome (at-map found i) has)))

-- the first demand without a length is the first that is not priced
pub first_gap_kept : (lengths : RoundState) (found : List (Option Found)) (first : Option DemandId) → IsKeptRound lengths found
    → IfSome first (λ k. IsFirstLeft lengths.lengths k.0) → ((first ≡ None) ↔ (left_in lengths.lengths ≡ 0)) → first ≡ first_in gap_at found
first_gap_kept lengths found None kept some none = sym (first_gap-none found (subst (λ (xs : List (Option ℕ)). left_in xs ≡ 0) kept.same (none.0 refl)))
first_gap_kept lengths found (Some k) kept some none = sym (first_gap-some found k (subst (λ (xs : List (Option ℕ)). IsFirstLeft xs k.0) kept.same some))

-- lengths that are restarted are those of a round in which nothing is found
pub kept_restarted : (lengths : RoundState) (found : List (Option Found)) (node : BranchId) (version : ℕ) (prices : List ℕ) → IsKeptRound lengths found
    → IsKeptRound (restarted lengths node version prices) (replicate (length found) None)
kept_restarted lengths found node version prices kept =
    record { begun = refl; same = ap (λ (n : ℕ). replicate n None) (ap length kept.same ∙ length-map_price found) ∙ map-none (length found) }

-- when the price of a path is put as length, the lengths are those of the round with the path
pub kept_put : (lengths : RoundState) (found : List (Option Found)) (k : ℕ) (x : Found) → IsKeptRound lengths found
    → IsKeptRound (with_length lengths k x.price) (set found k (Some x))
kept_put lengths found k x kept = record { begun = kept.begun; same = ap (λ (xs : List (Option ℕ)). set xs k (Some x.price)) kept.same ∙ map-put found k x }

-- a demand that is not priced has no length
pub unpriced_kept : (lengths : RoundState) (found : List (Option Found)) (k : ℕ) → IsKeptRound lengths found → slice_get found k ≡ Some None → length_at lengths.lengths k ≡ None
unpriced_kept lengths found k kept is =
    ap (λ (xs : List (Option ℕ)). length_at xs k) kept.same ∙ (at-map found k ∙ ap price_in (get_or_from_slice_get found k None None is))

-- a place that is new
pub kept_new : (lengths : RoundState) (found : List (Option Found)) (node : BranchId) (version : ℕ) (prices : List ℕ) (count : ℕ) → lengths.lengths ≡ replicate count None → found ≡ replicate count None
    → IsKeptRound (restarted lengths node version prices) found
kept_new lengths found node version prices count none none_found =
    subst (λ (xs : List (Option Found)). IsKeptRound (restarted lengths node version prices) xs) (sym none_found)
    (record { begun = refl; same = ap (λ (n : ℕ). replicate n None) (ap length none ∙ length-replicate count None) ∙ map-none count })

-- how the lengths of a place go with what was found: gaps, restarts, and paths that are put
pub ruleset kept_rounds = (left_of_kept, first_gap_kept, kept_restarted, kept_put, unpriced_kept)
