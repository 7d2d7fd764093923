-- The least column of a list, and what it becomes as the list grows.
use Rattle.std.proofs.Common.{◌≡◌, ℕ, zero, suc, ◌<◌, ◌≤◌, Bool, true, false, List, [], ◌∷◌, ◌++◌, length, get_or, All, Option, Some, None, slice_get, refl, sym, subst, arith, append_assoc}
use Rattle.std.specs.Prelude.{nat_lt, if◌then◌else◌}
use Rattle.std.specs.List.{fold}
use Rattle.std.proofs.lemmas.Bool.{ltb-true, ltb-false}
use Rattle.std.proofs.lemmas.List.{append-nil}
use Rattle.std.proofs.lemmas.List.Elements.{All-push, All-nil, All-cons}
use Rattle.plan_base.specs.declared.ids.ArcId.{ArcId}
use Rattle.plan_base.specs.declared.parts.Parts.{Parts}
use Rattle.arc_restrict.specs.Prices.{price_of}
use Rattle.master_step.specs.Columns.{cheaper, least_column, IsFirstLeast}

fold_push : (p : Parts) (prices : List ℕ) (best : List ArcId) (paths : List (List ArcId)) (path : List ArcId) → fold (cheaper p prices) best (paths ++ path ∷ []) ≡ cheaper p prices (fold (cheaper p prices) best paths) path
fold_push p prices best [] path = refl
fold_push p prices best (other ∷ paths) path = fold_push p prices (cheaper p prices best other) paths path

-- a column alone is the least one
pub least_column-one : (p : Parts) (prices : List ℕ) (path : List ArcId) → least_column p prices (path ∷ []) ≡ path
unfolding least_column
least_column-one p prices path = refl

-- with one column more, the least one is the cheaper of the least one so far and the new one
pub least_column-push : (p : Parts) (prices : List ℕ) (paths : List (List ArcId)) (path : List ArcId) → 0 < length paths → least_column p prices (paths ++ path ∷ []) ≡ cheaper p prices (least_column p prices paths) path
unfolding least_column
least_column-push p prices [] path some = absurd (omega arith)
least_column-push p prices (first ∷ paths) path some = fold_push p prices first paths path

slice_get-append_left : (xs ys : List (List ArcId)) (i : ℕ) (z : List ArcId) → slice_get xs i ≡ Some z → slice_get (xs ++ ys) i ≡ Some z
slice_get-append_left [] ys i z is = absurd (let bad : ◌≡◌ {A = Option (List ArcId)} None (Some z) = is in cc)
slice_get-append_left (x ∷ xs) ys zero z is = is
slice_get-append_left (x ∷ xs) ys (suc i) z is = slice_get-append_left xs ys i z is

slice_get-front : (xs ys : List (List ArcId)) (i : ℕ) (z : List ArcId) → i < length xs → slice_get (xs ++ ys) i ≡ Some z → slice_get xs i ≡ Some z
slice_get-front [] ys i z within is = absurd (omega arith)
slice_get-front (x ∷ xs) ys zero z within is = is
slice_get-front (x ∷ xs) ys (suc i) z within is = slice_get-front xs ys i z (omega arith) is

slice_get-last : (xs : List (List ArcId)) (z : List ArcId) → slice_get (xs ++ z ∷ []) (length xs) ≡ Some z
slice_get-last [] z = refl
slice_get-last (x ∷ xs) z = slice_get-last xs z

slice_get-within : (xs : List (List ArcId)) (i : ℕ) (z : List ArcId) → slice_get xs i ≡ Some z → i < length xs
slice_get-within [] i z is = absurd (let bad : ◌≡◌ {A = Option (List ArcId)} None (Some z) = is in cc)
slice_get-within (x ∷ xs) zero z is = omega arith
slice_get-within (x ∷ xs) (suc i) z is = omega (arith, slice_get-within xs i z is)

slice_get-get : (xs : List (List ArcId)) (i : ℕ) (z : List ArcId) → slice_get xs i ≡ Some z → get_or xs i z ≡ z
slice_get-get [] i z is = refl
slice_get-get (x ∷ xs) zero z is = cc
slice_get-get (x ∷ xs) (suc i) z is = slice_get-get xs i z is

-- a column that is read costs at least the least one
not_less : (p : Parts) (prices : List ℕ) (paths : List (List ArcId)) (best : List ArcId) (i : ℕ) (other : List ArcId) → All (λ x. price_of p prices best ≤ price_of p prices x) paths → slice_get paths i ≡ Some other → price_of p prices best ≤ price_of p prices other
not_less p prices paths best i other all is =
    subst (λ (x : List ArcId). price_of p prices best ≤ price_of p prices x) (slice_get-get paths i other is) (all i other (slice_get-within paths i other is))

-- one column more
first_least-push : (p : Parts) (prices : List ℕ) (paths : List (List ArcId)) (best path : List ArcId) → IsFirstLeast p prices paths best → IsFirstLeast p prices (paths ++ path ∷ []) (cheaper p prices best path)
first_least-push p prices paths best path h = by (nat_lt (price_of p prices path) (price_of p prices best)) refl
  where
    by : (b : Bool) → nat_lt (price_of p prices path) (price_of p prices best) ≡ b → IsFirstLeast p prices (paths ++ path ∷ []) (if b then path else best)
    by true less =
        let below : price_of p prices path < price_of p prices best = ltb-true _ _ less in
        record {
          place = length paths;
          is_path = slice_get-last paths path;
          least = All-push (λ x. price_of p prices path ≤ price_of p prices x) paths path (λ k d within. (let most = h.least k d within in omega arith)) (omega arith);
          first = λ i other before is. (let most = not_less p prices paths best i other h.least (slice_get-front paths (path ∷ []) i other before is) in omega arith);
        }
    by false more =
        let above : price_of p prices best ≤ price_of p prices path = ltb-false _ _ more in
        record {
          place = h.place;
          is_path = slice_get-append_left paths (path ∷ []) h.place best h.is_path;
          least = All-push (λ x. price_of p prices best ≤ price_of p prices x) paths path h.least above;
          first = λ i other before is. h.first i other before (slice_get-front paths (path ∷ []) i other (let place = slice_get-within paths h.place best h.is_path in omega arith) is);
        }

first_least-fold : (p : Parts) (prices : List ℕ) (rest done : List (List ArcId)) (best : List ArcId) → IsFirstLeast p prices done best → IsFirstLeast p prices (done ++ rest) (fold (cheaper p prices) best rest)
first_least-fold p prices [] done best h = subst (λ (xs : List (List ArcId)). IsFirstLeast p prices xs best) (sym (append-nil done)) h
first_least-fold p prices (path ∷ rest) done best h =
    subst (λ (xs : List (List ArcId)). IsFirstLeast p prices xs (fold (cheaper p prices) (cheaper p prices best path) rest)) (append_assoc done (path ∷ []) rest)
    (first_least-fold p prices rest (done ++ path ∷ []) (cheaper p prices best path) (first_least-push p prices done best path h))

-- the least column of some is the first of those that cost least
pub first_least : (p : Parts) (prices : List ℕ) (paths : List (List ArcId)) → 0 < length paths → IsFirstLeast p prices paths (least_column p prices paths)
unfolding least_column
first_least p prices [] some = absurd (omega arith)
first_least p prices (first ∷ paths) some =
    first_least-fold p prices paths (first ∷ []) first (record {
      place = 0;
      is_path = refl;
      least = All-cons (λ x. price_of p prices first ≤ price_of p prices x) first [] (omega arith) (All-nil (λ x. price_of p prices first ≤ price_of p prices x));
      first = λ i other before is. absurd (omega arith);
    })
