-- What a loop over a list has written so far.
use Rattle.std.proofs.Common.{◌≡◌, ℕ, ◌+◌, ◌<◌, List, [], ◌∷◌, ◌++◌, length, take, get_or, refl, sym, ap, ◌∙◌, append_assoc, flat_map}
use Rattle.std.proofs.lemmas.List.{get_or_default, take_more, flat_map_more}
use Rattle.snd_reader.specs.Readers.{Lexeme, close_bracket}
use Rattle.snd_reader.specs.Writing.{lexeme_text, spaced}

-- the item at the place goes to the end of those before it
next : {X : Type 0} (xs : List X) (i : ℕ) (x : X) → i < length xs → x ≡ get_or xs i x → take i xs ++ x ∷ [] ≡ take (i + 1) xs
next xs i x within is_x = ap (λ y. take i xs ++ y ∷ []) is_x ∙ sym (take_more xs i x within)

-- with the text of the next item, a loop over items has written the texts of one item more
pub lines_more : {X : Type 0} (f : X → List ℕ) (xs : List X) (i : ℕ) (x : X) (text old new : List ℕ) → i < length xs → x ≡ get_or xs i x → old ≡ text ++ flat_map f (take i xs) → new ≡ old ++ f x → new ≡ text ++ flat_map f (take (i + 1) xs)
lines_more f xs i x text old new within is_x is_old is_new =
    is_new ∙ ap (λ bytes. bytes ++ f x) is_old ∙ flat_map_more f text (take i xs) x ∙ ap (λ ys. text ++ flat_map f ys) (next xs i x within is_x)

-- the same where the item is read with a default
pub lines_more_or : {X : Type 0} (f : X → List ℕ) (xs : List X) (i : ℕ) (d : X) (text old new : List ℕ) → i < length xs → old ≡ text ++ flat_map f (take i xs) → new ≡ old ++ f (get_or xs i d) → new ≡ text ++ flat_map f (take (i + 1) xs)
lines_more_or f xs i d text old new within is_old is_new = lines_more f xs i (get_or xs i d) text old new within (get_or_default xs i d (get_or xs i d) within) is_old is_new

-- two lists of tokens together are written, with spaces, as the one and then the other
pub spaced_append : (ts us : List Lexeme) → spaced (ts ++ us) ≡ spaced ts ++ spaced us
spaced_append [] us = refl
spaced_append (t ∷ ts) us = ap (λ bytes. 32 ∷ bytes) (ap (λ bytes. lexeme_text t ++ bytes) (spaced_append ts us) ∙ sym (append_assoc (lexeme_text t) (spaced ts) (spaced us)))

spaced_all : {X : Type 0} (f : X → List Lexeme) (xs : List X) → spaced (flat_map f xs) ≡ flat_map (λ x. spaced (f x)) xs
spaced_all f [] = refl
spaced_all f (x ∷ xs) = spaced_append (f x) (flat_map f xs) ∙ ap (λ bytes. spaced (f x) ++ bytes) (spaced_all f xs)

-- what is written between brackets
pub bracketed : (ts : List Lexeme) (text opened filled new : List ℕ) → opened ≡ text ++ 32 ∷ 40 ∷ [] → filled ≡ opened ++ spaced ts → new ≡ filled ++ 32 ∷ 41 ∷ [] → new ≡ text ++ 32 ∷ 40 ∷ spaced (ts ++ close_bracket ∷ [])
bracketed ts text opened filled new is_opened is_filled is_new =
    is_new ∙ ap (λ bytes. bytes ++ 32 ∷ 41 ∷ []) (is_filled ∙ ap (λ bytes. bytes ++ spaced ts) is_opened)
    ∙ append_assoc (text ++ 32 ∷ 40 ∷ []) (spaced ts) (32 ∷ 41 ∷ []) ∙ append_assoc text (32 ∷ 40 ∷ []) (spaced ts ++ 32 ∷ 41 ∷ [])
    ∙ ap (λ bytes. text ++ 32 ∷ 40 ∷ bytes) (sym (spaced_append ts (close_bracket ∷ [])))

-- with the tokens of the next item, a loop over items has written the tokens of one item more
pub tokens_more : {X : Type 0} (f : X → List Lexeme) (xs : List X) (i : ℕ) (x : X) (text old new : List ℕ) → i < length xs → x ≡ get_or xs i x → old ≡ text ++ spaced (flat_map f (take i xs)) → new ≡ old ++ spaced (f x) → new ≡ text ++ spaced (flat_map f (take (i + 1) xs))
tokens_more f xs i x text old new within is_x is_old is_new =
    lines_more (λ y. spaced (f y)) xs i x text old new within is_x (is_old ∙ ap (λ bytes. text ++ bytes) (spaced_all f (take i xs))) is_new
    ∙ ap (λ bytes. text ++ bytes) (sym (spaced_all f (take (i + 1) xs)))
