-- The cuts of a row whose rates are above 0 are worth what all of them are.
use Rattle.std.proofs.Common.{◌≡◌, ℕ, zero, suc, ◌+◌, ◌*◌, ◌<◌, ◌≤◌, Bool, true, false, List, [], ◌∷◌, ◌++◌, map, length, take, slice_index, All, if◌then◌else◌, refl, sym, ap, subst, ◌∙◌, arith}
use Rattle.std.proofs.Math.Path.{fun_ext, subst₂}
use Rattle.std.specs.Prelude.{nat_lt, slice_index_or}
use Rattle.std.specs.List.{sum_by}
use Rattle.std.proofs.lemmas.Bool.{ltb-false, lt-ltb, le-ltb}
use Rattle.std.proofs.lemmas.List.{map-append, take_more}
use Rattle.std.proofs.lemmas.List.Elements.{All-nil, All-cons, All-head, All-tail, All-from_get_or}
use Rattle.std.proofs.lemmas.List.Sums.{sum_by-cons}
use Rattle.plan_base.specs.declared.parts.Parts.{Parts}
use Rattle.plan_base.specs.Arcs.{link_at}
use Rattle.plan_base.specs.Places.{is_two_way, there_of, back_of}
use Rattle.link_steps.specs.declared.rated.Rated.{Rated}
use Rattle.link_steps.specs.Tallies.{part, worth, IsTally, no_rated, ArePlaceRates}
use Rattle.proof_tree.specs.declared.cuts.Cut.{Cut}
use Rattle.proof_tree.specs.Cuts.{place_crosses, batch_of, cut_at, AreCuts}
use Rattle.proof_tree.specs.RatedBounds.{with_rated, rated_before, rated_on, rated_there, rated_back}
use Rattle.proof_tree.specs.RatedEvidence.{rates_in, AreLawfulNumbers}
use Rattle.proof_tree.proofs.PlaceRates.{link_rates-lawful}
use Rattle.cut_values.specs.declared.crossing.Crossing.{Crossing}
use Rattle.cut_values.specs.Crossings.{with_crossing, crossings_before, crossings_on, crossings_there, crossings_back, rated_of, used}

-- the cuts that a place crosses, each with its rate, are those of its row
pub rated-crossings : (p : Parts) (cuts : List Cut) (rates : List ℕ) (q n : ℕ) → map (rated_of rates) (crossings_before p cuts q n) ≡ rated_before p cuts rates q n
rated-crossings p cuts rates q zero = refl
rated-crossings p cuts rates q (suc n) =
    more (place_crosses p (cut_at cuts n).nodes q) (crossings_before p cuts q n) (rated_before p cuts rates q n) (record { number = n; batch = batch_of p (cut_at cuts n) q })
    (rated-crossings p cuts rates q n)
  where
    more : (b : Bool) (row : List Crossing) (list : List Rated) (here : Crossing) → map (rated_of rates) row ≡ list → map (rated_of rates) (with_crossing b row here) ≡ with_rated b list (rated_of rates here)
    more true row list here same = map-append (rated_of rates) row (here ∷ []) ∙ ap (λ (l : List Rated). l ++ (rated_of rates here ∷ [])) same
    more false row list here same = same

-- so for the first place of a link
rated-there : (p : Parts) (cuts : List Cut) (rates : List ℕ) (e : ℕ) → map (rated_of rates) (crossings_there p cuts e) ≡ rated_there p cuts rates e
rated-there p cuts rates e = rated-crossings p cuts rates (if is_two_way p.orient then 2 * e else e) (length cuts)

-- and for its second place
rated-back : (p : Parts) (cuts : List Cut) (rates : List ℕ) (e : ℕ) → map (rated_of rates) (crossings_back p cuts e) ≡ rated_back p cuts rates e
rated-back p cuts rates e = by_cases (is_two_way p.orient)
  where
    by_cases : (b : Bool) → map (rated_of rates) (if b then crossings_on p cuts (2 * e + 1) else []) ≡ (if b then rated_on p cuts rates (2 * e + 1) else [])
    by_cases true = rated-crossings p cuts rates (2 * e + 1) (length cuts)
    by_cases false = refl

-- what is nothing at a rate of 0 has the same sum over those with a rate above 0
used-sum : (f : Rated → ℕ) → ((r : Rated) → r.rate ≡ 0 → f r ≡ 0) → (rates : List ℕ) (row : List Crossing) → sum_by f (used rates row) ≡ sum_by f (map (rated_of rates) row)
used-sum f none rates [] = refl
used-sum f none rates (c ∷ row) =
    more (nat_lt 0 (slice_index rates c.number)) refl (used-sum f none rates row)
  where
    more : (b : Bool) → nat_lt 0 (slice_index rates c.number) ≡ b → sum_by f (used rates row) ≡ sum_by f (map (rated_of rates) row)
        → sum_by f (if b then rated_of rates c ∷ used rates row else used rates row) ≡ sum_by f (rated_of rates c ∷ map (rated_of rates) row)
    more true is same =
        let mine = sum_by-cons f (rated_of rates c) (used rates row) in
        let whole = sum_by-cons f (rated_of rates c) (map (rated_of rates) row) in
        omega (arith, mine, whole, same)
    more false is same =
        let zero_rate : slice_index rates c.number ≤ 0 = ltb-false 0 (slice_index rates c.number) is in
        let nothing : f (rated_of rates c) ≡ 0 = none (rated_of rates c) (let no : slice_index rates c.number ≡ 0 = omega (arith, zero_rate) in no) in
        let whole = sum_by-cons f (rated_of rates c) (map (rated_of rates) row) in
        omega (arith, nothing, whole, same)

-- what holds of all holds of those with a rate above 0
used-All : (P : Rated → Type 0) (rates : List ℕ) (row : List Crossing) → All P (map (rated_of rates) row) → All P (used rates row)
used-All P rates [] all = All-nil P
used-All P rates (c ∷ row) all =
    more (nat_lt 0 (slice_index rates c.number)) (used-All P rates row (All-tail P (rated_of rates c) (map (rated_of rates) row) all))
  where
    more : (b : Bool) → All P (used rates row) → All P (if b then rated_of rates c ∷ used rates row else used rates row)
    more true rest = All-cons P (rated_of rates c) (used rates row) (All-head P (rated_of rates c) (map (rated_of rates) row) all) rest
    more false rest = rest

-- a price and rates that a place may have it may have without the rates of 0
place_rates-used : (p : Parts) (e price : ℕ) (rates : List ℕ) (row : List Crossing) (rated : List Rated) → map (rated_of rates) row ≡ rated → ArePlaceRates p e price rated → ArePlaceRates p e price (used rates row)
place_rates-used p e price rates row rated same are =
    let all = subst (λ (list : List Rated). ArePlaceRates p e price list) (sym same) are in
    let total = used-sum (λ (r : Rated). r.rate) (λ r none. none) rates row in
    record {
      tallies = λ i within.
          used-All (λ (r : Rated). IsTally r.batch.period r.batch.first) rates row
          (All-from_get_or (λ (r : Rated). IsTally r.batch.period r.batch.first) (map (rated_of rates) row) no_rated all.tallies) i no_rated within;
      limit = omega (arith, total, all.limit);
      covers = λ i within.
          used-All (λ (r : Rated). 0 < r.rate → 1000 * (link_at p e).routing ≤ price) rates row
          (All-from_get_or (λ (r : Rated). 0 < r.rate → 1000 * (link_at p e).routing ≤ price) (map (rated_of rates) row) no_rated all.covers) i no_rated within;
    }

-- loads are worth the same without the rates of 0
worth-used : (price : ℕ) (rates : List ℕ) (row : List Crossing) (rated : List Rated) → map (rated_of rates) row ≡ rated → worth price (used rates row) ≡ worth price rated
worth-used price rates row rated same = fun_ext at_load ∙ ap (worth price) same
  where
    at_load : (x : ℕ) → worth price (used rates row) x ≡ worth price (map (rated_of rates) row) x
    at_load x =
        let counted = used-sum (λ (r : Rated). r.rate * part r.batch x) (λ r none. (let times : r.rate * part r.batch x ≡ 0 * part r.batch x = ap (λ (n : ℕ). n * part r.batch x) none in omega (arith, times))) rates row in
        ap (λ (n : ℕ). price * x + n) counted

module _ (p : Parts) (cuts : List Cut) (numbers : List ℕ) (e : ℕ) where
  -- the prices of a link's places and what is above 0 of their rates are as they have to be
  pub used-lawful : AreCuts p cuts → AreLawfulNumbers p cuts numbers → e < length p.links
      → ArePlaceRates p e (there_of p (slice_index numbers) e) (used (rates_in p numbers) (crossings_there p cuts e)) × ArePlaceRates p e (back_of p (slice_index numbers) e) (used (rates_in p numbers) (crossings_back p cuts e))
  used-lawful are lawful below =
      let all = link_rates-lawful p e cuts numbers (rates_in p numbers) are lawful below in (
        place_rates-used p e (there_of p (slice_index numbers) e) (rates_in p numbers) (crossings_there p cuts e) (rated_there p cuts (rates_in p numbers) e) (rated-there p cuts (rates_in p numbers) e) all.there,
        place_rates-used p e (back_of p (slice_index numbers) e) (rates_in p numbers) (crossings_back p cuts e) (rated_back p cuts (rates_in p numbers) e) (rated-back p cuts (rates_in p numbers) e) all.other,
      )

  -- what holds of what loads are worth by them holds by all rates
  pub used-worths : (P : (ℕ → ℕ) → (ℕ → ℕ) → Type 0)
      → P (worth (there_of p (slice_index numbers) e) (used (rates_in p numbers) (crossings_there p cuts e))) (worth (back_of p (slice_index numbers) e) (used (rates_in p numbers) (crossings_back p cuts e)))
      → P (worth (there_of p (slice_index numbers) e) (rated_there p cuts (rates_in p numbers) e)) (worth (back_of p (slice_index numbers) e) (rated_back p cuts (rates_in p numbers) e))
  used-worths P h =
      subst₂ P
      (worth-used (there_of p (slice_index numbers) e) (rates_in p numbers) (crossings_there p cuts e) (rated_there p cuts (rates_in p numbers) e) (rated-there p cuts (rates_in p numbers) e))
      (worth-used (back_of p (slice_index numbers) e) (rates_in p numbers) (crossings_back p cuts e) (rated_back p cuts (rates_in p numbers) e) (rated-back p cuts (rates_in p numbers) e)) h

-- how rates are put into a row of them
used-push : (rates : List ℕ) (row : List Crossing) (c : Crossing) → used rates (row ++ (c ∷ [])) ≡ (if nat_lt 0 (slice_index rates c.number) then used rates row ++ (rated_of rates c ∷ []) else used rates row)
used-push rates [] c = refl
used-push rates (d ∷ row) c =
    more (nat_lt 0 (slice_index rates d.number)) (nat_lt 0 (slice_index rates c.number)) (used-push rates row c)
  where
    more : (here last : Bool) → used rates (row ++ (c ∷ [])) ≡ (if last then used rates row ++ (rated_of rates c ∷ []) else used rates row)
        → (if here then rated_of rates d ∷ used rates (row ++ (c ∷ [])) else used rates (row ++ (c ∷ [])))
        ≡ (if last then (if here then rated_of rates d ∷ used rates row else used rates row) ++ (rated_of rates c ∷ []) else (if here then rated_of rates d ∷ used rates row else used rates row))
    more true true same = ap (λ (l : List Rated). rated_of rates d ∷ l) same
    more true false same = ap (λ (l : List Rated). rated_of rates d ∷ l) same
    more false true same = same
    more false false same = same

-- one cut more, whose rate is above 0
pub used-more : (rates : List ℕ) (row : List Crossing) (i : ℕ) (d : Crossing) (list : List Rated) → i < length row → 0 < slice_index rates (slice_index_or row i d).number → list ≡ used rates (take i row)
    → list ++ (rated_of rates (slice_index_or row i d) ∷ []) ≡ used rates (take (i + 1) row)
used-more rates row i d list within some before =
    ap (λ (l : List Rated). l ++ (rated_of rates (slice_index_or row i d) ∷ [])) before
    ∙ sym (ap (used rates) (take_more row i d within) ∙ rw (lt-ltb 0 (slice_index rates (slice_index_or row i d).number) some) at (used-push rates (take i row) (slice_index_or row i d)))

-- one cut more, whose rate is 0
pub used-less : (rates : List ℕ) (row : List Crossing) (i : ℕ) (d : Crossing) (list : List Rated) → i < length row → slice_index rates (slice_index_or row i d).number ≤ 0 → list ≡ used rates (take i row)
    → list ≡ used rates (take (i + 1) row)
used-less rates row i d list within none before =
    before ∙ sym (ap (used rates) (take_more row i d within) ∙ rw (le-ltb 0 (slice_index rates (slice_index_or row i d).number) none) at (used-push rates (take i row) (slice_index_or row i d)))

-- they are no more than the cuts of the row
pub used-few : (rates : List ℕ) (row : List Crossing) → length (used rates row) ≤ length row
used-few rates [] = omega arith
used-few rates (c ∷ row) = more (nat_lt 0 (slice_index rates c.number)) (used-few rates row)
  where
    more : (b : Bool) → length (used rates row) ≤ length row → length (if b then rated_of rates c ∷ used rates row else used rates row) ≤ suc (length row)
    more true few = omega (arith, few)
    more false few = omega (arith, few)
