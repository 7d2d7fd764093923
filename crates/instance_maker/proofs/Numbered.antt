-- Lists of items that are numbered from 0 on.
use Rattle.std.proofs.Common.{◌≡◌, ℕ, ◌+◌, ◌-◌, ◌<◌, ◌≤◌, ◌⊎◌, inl, inr, List, ◌++◌, length, map, get_or, All, subst, sym, arith}
use Rattle.std.specs.List.{AllPairs, range_with_len}
use Rattle.std.proofs.Math.Nat.{zero-add}
use Rattle.std.proofs.Math.Seq.{get_or-append_right}
use Rattle.std.proofs.lemmas.Bool.{cases_lt}
use Rattle.std.proofs.lemmas.List.{length-append, get_or_append_left}
use Rattle.std.proofs.lemmas.List.FromFn.{get_or-map-range_with_len, length-map-range_with_len}

-- the item of a number
pub numbered_at : {X : Type 0} (f : ℕ → X) (n i : ℕ) (d : X) → i < n → get_or (map f (range_with_len 0 n)) i d ≡ f i
numbered_at f n i d within = get_or-map-range_with_len f 0 n i i d within (zero-add i)

-- what holds of the item of each number
pub all_numbered : {X : Type 0} (P : X → Type 0) (f : ℕ → X) (n : ℕ) → ((i : ℕ) → i < n → P (f i)) → All P (map f (range_with_len 0 n))
all_numbered P f n each i d within =
    let below : i < n = omega (arith, within, length-map-range_with_len f 0 n) in
    subst P (sym (numbered_at f n i d below)) (each i below)

-- what holds of the items of each two numbers
pub pairs_numbered : {X : Type 0} (R : X → X → Type 0) (f : ℕ → X) (n : ℕ) → ((i j : ℕ) → i < j → j < n → R (f i) (f j)) → AllPairs R (map f (range_with_len 0 n))
pairs_numbered R f n each i j d before within =
    let below : j < n = omega (arith, within, length-map-range_with_len f 0 n) in
    rw (numbered_at f n i d (omega arith), numbered_at f n j d below) (each i j before below)

-- what holds within two lists, and of each two items of which one is of either, holds within both together
pub pairs_append : {X : Type 0} (R : X → X → Type 0) (xs ys : List X) → AllPairs R xs → AllPairs R ys
    → ((i j : ℕ) (d : X) → i < length xs → j < length ys → R (get_or xs i d) (get_or ys j d)) → AllPairs R (xs ++ ys)
pairs_append {X} R xs ys first second across i j d before within = by (cases_lt j (length xs)) (cases_lt i (length xs))
  where
    inside : j < length xs + length ys
    inside = omega (arith, within, length-append xs ys)

    by : (j < length xs) ⊎ (length xs ≤ j) → (i < length xs) ⊎ (length xs ≤ i) → R (get_or (xs ++ ys) i d) (get_or (xs ++ ys) j d)
    by (inl low) _ = rw (get_or_append_left xs ys d i (omega arith), get_or_append_left xs ys d j low) (first i j d before low)
    by (inr high) (inl low) =
        rw (get_or_append_left xs ys d i low, get_or-append_right xs ys j d high) (across i (j - length xs) d low (omega (arith, inside)))
    by (inr high) (inr both) =
        rw (get_or-append_right xs ys i d both, get_or-append_right xs ys j d high) (second (i - length xs) (j - length xs) d (omega arith) (omega (arith, inside)))
