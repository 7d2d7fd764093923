-- What a loop over a list has written so far.
use Rattle.std.proofs.Common.{◌≡◌, ℕ, ◌+◌, ◌<◌, List, [], ◌∷◌, ◌++◌, length, take, get_or, sym, ap, ◌∙◌}
use Rattle.std.specs.List.{flat_map}
use Rattle.std.proofs.lemmas.List.{take_more, flat_map_more}

-- one item more of a text that a loop writes
pub lines_more : {X : Type 0} (f : X → List ℕ) (xs : List X) (i : ℕ) (x : X) (text old new : List ℕ) → i < length xs → x ≡ get_or xs i x → old ≡ text ++ flat_map f (take i xs) → new ≡ old ++ f x → new ≡ text ++ flat_map f (take (i + 1) xs)
lines_more f xs i x text old new within is_x is_old is_new =
    is_new ∙ ap (λ bytes. bytes ++ f x) is_old ∙ flat_map_more f text (take i xs) x ∙ ap (λ ys. text ++ flat_map f ys) (ap (λ y. take i xs ++ y ∷ []) is_x ∙ sym (take_more xs i x within))

-- the step of a loop that writes a list
pub ruleset lists = (lines_more)
