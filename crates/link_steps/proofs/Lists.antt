-- A list that is made item by item from another one.
use Rattle.std.proofs.Common.{◌≡◌, ℕ, ◌+◌, ◌<◌, List, [], ◌∷◌, ◌++◌, length, map, take, get_or, sym, ap, ◌∙◌}
use Rattle.std.proofs.lemmas.List.{map_push, take_more}

-- what is made of the first items, and behind it what the next item gives, is made of one item more
pub next_more : {X Y : Type 0} (f : X → Y) (xs : List X) (i : ℕ) (x : X) (old new : List Y) → i < length xs → x ≡ get_or xs i x → old ≡ map f (take i xs) → new ≡ old ++ f x ∷ [] → new ≡ map f (take (i + 1) xs)
next_more f xs i x old new within is_x is_old is_new =
    let items : take i xs ++ x ∷ [] ≡ take (i + 1) xs = ap (λ y. take i xs ++ y ∷ []) is_x ∙ sym (take_more xs i x within) in
    is_new ∙ ap (λ ys. ys ++ f x ∷ []) is_old ∙ sym (map_push f (take i xs) x) ∙ ap (map f) items
