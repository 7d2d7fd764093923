-- Decks that come back are still all decks of one making.
use Rattle.std.proofs.Common.{◌≡◌, ℕ, List, [], ◌∷◌, ◌++◌, length, map, slice_get, Some, Result, Ok, Err, IfOk, Vec, Global, refl, ap, sym, subst, ◌∙◌, arith, length-append}
use Rattle.std.proofs.lemmas.List.{nil_from_length}
use Rattle.std.proofs.lemmas.List.Sorted.{IsPermutation-refl}
use Rattle.block_deques.specs.declared.block.Block.{Block}
use Rattle.block_deques.specs.declared.deck.Deck.{Deck}
use Rattle.block_deques.specs.Decks.{DeckId, deck_id}
use Rattle.block_deques.specs.Wholes.{IsMaking, AreOneMaking, AreAllDecks}
use Rattle.block_deques.proofs.Places.{map-pointwise}

-- the same decks in the same order
pub stay_one_making : (ds es : List Deck) → map deck_id es ≡ map deck_id ds → AreOneMaking ds → AreOneMaking es
stay_one_making ds es same making = subst IsMaking (sym same) making

-- two decks that come back as the same decks in the same order are still all decks of one making
pub two_stay : (a b c d : Deck) → deck_id c ≡ deck_id a → deck_id d ≡ deck_id b → AreOneMaking (a ∷ b ∷ []) → AreOneMaking (c ∷ d ∷ [])
two_stay a b c d p q making = subst (λ (z : DeckId × DeckId). IsMaking (z.0 ∷ z.1 ∷ [])) (λ i. (sym p i, sym q i)) making

-- the two that were popped from a list of two
pub two_popped : (ds more fewer : List Deck) (a b : Deck) → ds ≡ more ++ b ∷ [] → more ≡ fewer ++ a ∷ [] → length ds ≡ 2 → AreOneMaking ds → AreOneMaking (a ∷ b ∷ [])
two_popped ds more fewer a b p q two making =
    let m = ap length p in
    let n = ap length q in
    let none : fewer ≡ [] = nil_from_length fewer (omega (arith, length-append more (b ∷ []), length-append fewer (a ∷ []))) in
    subst AreOneMaking (p ∙ ap (λ xs. xs ++ b ∷ []) (q ∙ ap (λ xs. xs ++ a ∷ []) none)) making

map_map : {A B C : Type 0} (f : B → C) (g : A → B) (xs : List A) → map f (map g xs) ≡ map (λ x. f (g x)) xs
map_map f g [] = refl
map_map {A} {B} {C} f g (x ∷ xs) = ap (λ (us : List C). f (g x) ∷ us) (map_map f g xs)

-- the decks in which threads have worked
pub ids_alike : (ws : List (Deck × Vec Block Global)) (ds : List Deck) → length ws ≡ length ds
    → ((k : ℕ) (w : Deck × Vec Block Global) (d : Deck) → slice_get ws k ≡ Some w → slice_get ds k ≡ Some d → deck_id w.0 ≡ deck_id d)
    → map deck_id (map (λ (w : Deck × Vec Block Global). w.0) ws) ≡ map deck_id ds
ids_alike ws ds long same = map_map deck_id (λ (w : Deck × Vec Block Global). w.0) ws ∙ map-pointwise (λ (w : Deck × Vec Block Global). deck_id w.0) deck_id ws ds long same

-- two clauses of one value
pub if_both : {X E : Type 0} (r : Result X E) (P Q R : X → Type 0) → IfOk r P → IfOk r Q → ((x : X) → P x → Q x → R x) → IfOk r R
if_both (Ok x) P Q R p q f = f x p q
if_both (Err e) P Q R p q f = tt

-- decks that stand in the order of their numbers
pub in_turn : (ds : List Deck) → AreOneMaking ds → AreAllDecks ds
in_turn ds making = record { ordered = ds; same = IsPermutation-refl ds; making = making }
