-- The first item of a list that passes a test, and words that are seen behind references.
use Rattle.std.proofs.Common.{◌≡◌, ℕ, ◌+◌, ◌<◌, Bool, true, false, cond, List, [], ◌∷◌, length, map, drop, get_or, Some, refl, sym, ap, ◌∙◌, nat_eq, drop-cons, add-one}
use Rattle.std.specs.Borrow.{Bor}
use Rattle.std.specs.List.{find, list_any}
use Rattle.std.specs.Cmp.Lexicographic.{pointwise}

-- the items from a place on
from-here : {X : Type 0} (xs : List X) (i : ℕ) (d : X) → i < length xs → drop i xs ≡ get_or xs i d ∷ drop (i + 1) xs
from-here xs i d within = rw (add-one, drop-cons xs i d)

-- where the search may begin at an item and the item passes the test, the item is what the whole search finds
pub found_here : {X : Type 0} (test : X → Bool) (xs : List X) (i : ℕ) (d : X) → i < length xs → find test (drop i xs) ≡ find test xs → test (get_or xs i d) ≡ true → find test xs ≡ Some (get_or xs i d)
found_here test xs i d within rest here =
    sym rest ∙ ap (find test) (from-here xs i d within) ∙ ap (λ b. cond b (Some (get_or xs i d)) (find test (drop (i + 1) xs))) here

-- where the search may begin at an item and the item fails the test, the search may begin behind it
pub found_later : {X : Type 0} (test : X → Bool) (xs : List X) (i : ℕ) (d : X) → i < length xs → find test (drop i xs) ≡ find test xs → test (get_or xs i d) ≡ false → find test (drop (i + 1) xs) ≡ find test xs
found_later test xs i d within rest here =
    sym (ap (λ b. cond b (Some (get_or xs i d)) (find test (drop (i + 1) xs))) here) ∙ sym (ap (find test) (from-here xs i d within)) ∙ rest

-- the bytes are one of the words behind references exactly where they are one of the words themselves
pub seen_among : (bytes : List ℕ) (words : List (Bor (List ℕ))) (others : List (List ℕ)) → map (λ word. word.now) words ≡ others → list_any (λ known. pointwise nat_eq bytes known.now) words ≡ list_any (λ known. pointwise nat_eq bytes known) others
seen_among bytes words others e = by words ∙ ap (list_any (λ known. pointwise nat_eq bytes known)) e
  where
    by : (ws : List (Bor (List ℕ))) → list_any (λ known. pointwise nat_eq bytes known.now) ws ≡ list_any (λ known. pointwise nat_eq bytes known) (map (λ word. word.now) ws)
    by [] = refl
    by (w ∷ ws) = rw (by ws) refl
