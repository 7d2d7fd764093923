-- What a loop over a list has made so far.
use Rattle.std.proofs.Common.{◌≡◌, ℕ, ◌+◌, ◌<◌, List, [], ◌∷◌, ◌++◌, length, map, take, get_or, sym, ap, ◌∙◌}
use Rattle.std.proofs.lemmas.List.{map-append, take_more}

-- the item at the place goes to the end of those before it
next : {X : Type 0} (xs : List X) (i : ℕ) (x : X) → i < length xs → x ≡ get_or xs i x → take i xs ++ x ∷ [] ≡ take (i + 1) xs
next xs i x within is_x = ap (λ y. take i xs ++ y ∷ []) is_x ∙ sym (take_more xs i x within)

one_more : {X Y : Type 0} (f : X → Y) (xs : List X) (x : X) (old new : List Y) → old ≡ map f xs → new ≡ old ++ f x ∷ [] → new ≡ map f (xs ++ x ∷ [])
one_more f xs x old new is_old is_new =
    is_new ∙ ap (λ ys. ys ++ f x ∷ []) is_old ∙ sym (map-append f xs (x ∷ []))

-- one item more of a list that a loop makes
pub next_more : {X Y : Type 0} (f : X → Y) (xs : List X) (i : ℕ) (x : X) (old new : List Y) → i < length xs → x ≡ get_or xs i x → old ≡ map f (take i xs) → new ≡ old ++ f x ∷ [] → new ≡ map f (take (i + 1) xs)
next_more f xs i x old new within is_x is_old is_new =
    one_more f (take i xs) x old new is_old is_new ∙ ap (map f) (next xs i x within is_x)
