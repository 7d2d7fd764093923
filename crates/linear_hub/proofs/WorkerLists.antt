-- Lists that are moved item by item, from the last one to the first, and workers that come back.
use Rattle.std.proofs.Common.{◌≡◌, ℕ, suc, List, [], ◌∷◌, ◌++◌, length, map, reverse, refl, ap, sym, subst, ◌∙◌, arith, append_assoc, All}
use Rattle.std.proofs.lemmas.List.Elements.{All-nil, All-cons, All-push, All-map}
use mathlib.Core.List.{map-append, reverse-append, reverse-cons, reverse-reverse}
use lib.ListN.{take}
use Rattle.block_deques.specs.declared.deck.Deck.{Deck}
use Rattle.block_deques.specs.Decks.{DeckId, deck_id}
use Rattle.block_deques.specs.Wholes.{IsMaking, AreOneMaking}
use Rattle.linear_hub.specs.Works.{AreRelated}
use Rattle.linear_hub.proofs.Callers.{taken}

-- one item goes from the end of a list to the end of another
pub moved : {A : Type 0} (whole left less behind more : List A) (x : A) → left ≡ less ++ x ∷ [] → more ≡ behind ++ x ∷ [] → whole ≡ left ++ reverse behind → whole ≡ less ++ reverse more
moved whole left less behind more x l m w =
    w ∙ ap (λ zs. zs ++ reverse behind) l ∙ append_assoc less (x ∷ []) (reverse behind) ∙ ap (λ zs. less ++ zs) (sym (ap reverse m ∙ reverse-append behind (x ∷ [])))

all_reversed : {A : Type 0} (P : A → Type 0) (xs : List A) → All P xs → All P (reverse xs)
all_reversed P [] h = h
all_reversed P (x ∷ xs) h =
    subst (All P) (sym (reverse-cons x xs)) (All-push P (reverse xs) x (all_reversed P xs (λ k d lt. h (suc k) d (omega arith))) (h 0 x (omega arith)))

seen_before : {A W : Type 0} (P : A → Type 0) (f : W → A) (ws : List W) → All P (map f ws) → All (λ w. P (f w)) ws
seen_before P f [] h = All-nil (λ w. P (f w))
seen_before P f (w ∷ ws) h = All-cons (λ v. P (f v)) w ws (h 0 (f w) (omega arith)) (seen_before P f ws (λ k d lt. h (suc k) d (omega arith)))

-- what holds of each seat holds of each worker's
pub all_workers : {A W : Type 0} (P : A → Type 0) (f : W → A) (xs : List A) (ws : List W) → xs ≡ reverse (map f ws) → All P xs → All (λ w. P (f w)) ws
all_workers P f xs ws e h =
    seen_before P f ws (subst (All P) (ap reverse e ∙ reverse-reverse (map f ws)) (all_reversed P xs h))

-- and the other way round
pub all_seats : {A W : Type 0} (P : A → Type 0) (f : W → A) (xs : List A) (ws : List W) → xs ≡ reverse (map f ws) → All (λ w. P (f w)) ws → All P xs
all_seats P f xs ws e h = subst (All P) (sym e) (all_reversed P (map f ws) (All-map P f ws h))

map_map : {A B C : Type 0} (f : B → C) (g : A → B) (xs : List A) → map f (map g xs) ≡ map (λ x. f (g x)) xs
map_map f g [] = refl
map_map {A} {B} {C} f g (x ∷ xs) = ap (λ (us : List C). f (g x) ∷ us) (map_map f g xs)

map_reversed : {A B : Type 0} (f : A → B) (xs : List A) → map f (reverse xs) ≡ reverse (map f xs)
map_reversed f [] = refl
map_reversed f (x ∷ xs) =
    ap (map f) (reverse-cons x xs) ∙ map-append f (reverse xs) (x ∷ []) ∙ ap (λ zs. zs ++ f x ∷ []) (map_reversed f xs) ∙ sym (reverse-cons (f x) (map f xs))

-- which decks the workers have
ids_of : {W : Type 0} (f : W → Deck) (ds : List Deck) (ws : List W) → ds ≡ reverse (map f ws) → map deck_id ds ≡ reverse (map (λ w. deck_id (f w)) ws)
ids_of f ds ws e = ap (map deck_id) e ∙ map_reversed deck_id (map f ws) ∙ ap reverse (map_map deck_id f ws)

-- workers that have the same decks as before
same_ids : {W : Type 0} (f : W → Deck) (before after : List W) → length after ≡ length before → AreRelated (λ v w. deck_id (f w) ≡ deck_id (f v)) before after
    → map (λ w. deck_id (f w)) after ≡ map (λ w. deck_id (f w)) before
same_ids f [] [] long h = refl
same_ids f [] (y ∷ ys) long h = absurd (omega (arith, long))
same_ids f (x ∷ xs) [] long h = absurd (omega (arith, long))
same_ids f (x ∷ xs) (y ∷ ys) long h =
    let first : deck_id (f y) ≡ deck_id (f x) = h 0 x (omega arith) in
    let rest : map (λ w. deck_id (f w)) ys ≡ map (λ w. deck_id (f w)) xs = same_ids f xs ys (omega (arith, long)) (λ k d lt. h (suc k) d (omega arith)) in
    ap (λ (u : DeckId). u ∷ map (λ w. deck_id (f w)) ys) first ∙ ap (λ (us : List DeckId). deck_id (f x) ∷ us) rest

-- decks of one making that come back are still all of it, where their workers stand at the front of a list
pub still_one_making : {W : Type 0} (f : W → Deck) (n : ℕ) (before slice after rest : List W) → n ≡ length after → slice ≡ before → length after ≡ length slice
    → AreRelated (λ v w. deck_id (f w) ≡ deck_id (f v)) slice after → AreOneMaking (reverse (map f before)) → AreOneMaking (reverse (map f (take n (after ++ rest))))
still_one_making {W} f n before slice after rest whole is long related making =
    let old : map deck_id (reverse (map f before)) ≡ reverse (map (λ w. deck_id (f w)) before) = ids_of f (reverse (map f before)) before refl in
    let new : map deck_id (reverse (map f after)) ≡ reverse (map (λ w. deck_id (f w)) after) = ids_of f (reverse (map f after)) after refl in
    let same : map (λ w. deck_id (f w)) after ≡ map (λ w. deck_id (f w)) before = same_ids f slice after long related ∙ ap (map (λ w. deck_id (f w))) is in
    subst (λ (ws : List W). AreOneMaking (reverse (map f ws))) (sym (taken n after rest whole))
    (subst IsMaking (old ∙ ap reverse (sym same) ∙ sym new) making)
