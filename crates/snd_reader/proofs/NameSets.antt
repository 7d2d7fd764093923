-- Sets of names, seen as lists of bytes.
use Rattle.std.proofs.Common.{◌≡◌, ℕ, ◌+◌, Bool, false, cond, not, List, [], ◌∷◌, ◌++◌, length, map, refl, ap, ◌∙◌}
use Rattle.std.specs.Prelude.{Option, Some, None, position, nat_lt}
use Rattle.std.specs.List.{list_any, position_or_len}
use Rattle.std.proofs.lemmas.List.{map-append, length-map}
use Rattle.indexmap.specs.IndexSet.{insert_key}

-- a test holds for some of the views exactly where it holds for the view of some item
pub any_viewed : {X Y : Type 0} (view : X → Y) (p : Y → Bool) (xs : List X) → list_any p (map view xs) ≡ list_any (λ x. p (view x)) xs
any_viewed view p [] = refl
any_viewed view p (x ∷ xs) = rw (any_viewed view p xs) refl

place_viewed : {X Y : Type 0} (view : X → Y) (p : Y → Bool) (xs : List X) → position_or_len p (map view xs) ≡ position_or_len (λ x. p (view x)) xs
place_viewed view p [] = refl
place_viewed view p (x ∷ xs) = ap (λ (n : ℕ). cond (not (p (view x))) (1 + n) 0) (place_viewed view p xs)

-- a place, where it is one of so many
abbrev found : ℕ → ℕ → Option ℕ
found n count = cond (nat_lt n count) (Some n) None

-- the first view that passes a test has the place of the first item whose view passes it
pub position_viewed : {X Y : Type 0} (view : X → Y) (p : Y → Bool) (xs : List X) → position p (map view xs) ≡ position (λ x. p (view x)) xs
position_viewed view p xs =
    ap (λ (n : ℕ). found n (length (map view xs))) (place_viewed view p xs) ∙ ap (found (position_or_len (λ x. p (view x)) xs)) (length-map xs view)

-- a name that is new goes behind the others
pub added : {V : Type 0} (view : V → List ℕ) (eq : V → V → Bool) (ks new : List V) (k : V) (bytes : List ℕ) → list_any (eq k) ks ≡ false → new ≡ insert_key eq ks k → view k ≡ bytes
    → map view new ≡ map view ks ++ bytes ∷ []
added view eq ks new k bytes fresh n v = rw (n, fresh, ← v) (map-append view ks (k ∷ []))
