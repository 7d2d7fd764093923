-- Sets of price lists, seen as lists of numbers, and the lists of a tree gathered record by record.
use Rattle.std.proofs.Common.{◌≡◌, ℕ, zero, suc, ◌+◌, ◌<◌, ◌≤◌, Bool, true, false, cond, not, List, [], ◌∷◌, ◌++◌, length, get_or, drop, map, Option, Some, None, refl, sym, ap, ◌∙◌, nat_lt, nat_eq, arith}
use Rattle.std.specs.Prelude.{position, slice_get}
use Rattle.std.specs.Option.{option_map}
use Rattle.std.specs.Cmp.Lexicographic.{pointwise}
use Rattle.std.specs.List.{list_any, position_or_len}
use Rattle.std.proofs.lemmas.List.{map-append, length-map, drop_more, drop_all}
use Rattle.std.proofs.lemmas.Bool.{ltb-false}
use Rattle.indexmap.specs.IndexSet.{insert_key}
use Rattle.proof_tree.specs.declared.tree.TreeNode.{TreeNode}
use Rattle.cert_format.specs.Lists.{place_in, number_in, record_prices, with_some, with_list, gathered}

-- some item of a viewed list passes a test exactly where the view of some item does
pub any_viewed : {X Y : Type 0} (view : X → Y) (p : Y → Bool) (xs : List X) → list_any p (map view xs) ≡ list_any (λ x. p (view x)) xs
any_viewed view p [] = refl
any_viewed view p (x ∷ xs) = rw (any_viewed view p xs) refl

-- the first place of a viewed list that passes a test, or its length, is that of the items' views
pub place_viewed : {X Y : Type 0} (view : X → Y) (p : Y → Bool) (xs : List X) → position_or_len p (map view xs) ≡ position_or_len (λ x. p (view x)) xs
place_viewed view p [] = refl
place_viewed view p (x ∷ xs) = ap (λ (n : ℕ). cond (not (p (view x))) (1 + n) 0) (place_viewed view p xs)

-- what stands at a place of a viewed list is the view of the item at this place
pub at_viewed : {X Y : Type 0} (view : X → Y) (xs : List X) (n : ℕ) → slice_get (map view xs) n ≡ option_map view (slice_get xs n)
at_viewed view [] n = refl
at_viewed view (x ∷ xs) zero = refl
at_viewed view (x ∷ xs) (suc n) = at_viewed view xs n

-- a viewed list is as long as the list itself
pub length_viewed : {X Y : Type 0} (view : X → Y) (xs : List X) → length (map view xs) ≡ length xs
length_viewed view xs = length-map xs view

-- where an item stands at a place, its view stands at this place of the viewed list
pub at_some : {X Y : Type 0} (view : X → Y) (xs : List X) (n : ℕ) (x : X) → Some x ≡ slice_get xs n → Some (view x) ≡ slice_get (map view xs) n
at_some view xs n x e = ap (option_map view) e ∙ sym (at_viewed view xs n)

-- where no item stands at a place, nothing stands at this place of the viewed list
pub at_none : {X Y : Type 0} (view : X → Y) (xs : List X) (n : ℕ) → None ≡ slice_get xs n → None ≡ slice_get (map view xs) n
at_none view xs n e = ap (option_map view) e ∙ sym (at_viewed view xs n)

-- a place, where it is one of so many
abbrev found : ℕ → ℕ → Option ℕ
found n count = cond (nat_lt n count) (Some n) None

abbrev some-place : ℕ → Option ℕ
some-place n = Some n

number-some : (place count n : ℕ) (b : Bool) → nat_lt place count ≡ b → some-place n ≡ cond b (Some place) None → n ≡ place
number-some place count n true t e = cc
number-some place count n false f e = absurd cc

number-none : (place count : ℕ) (b : Bool) → nat_lt place count ≡ b → None ≡ cond b (some-place place) None → place ≤ count → count ≡ place
number-none place count true t e le = absurd cc
number-none place count false f e le = (let ge : count ≤ place = ltb-false place count f in omega (arith, ge, le))

place-most : {X : Type 0} (p : X → Bool) (xs : List X) → position_or_len p xs ≤ length xs
place-most p [] = omega arith
place-most p (x ∷ xs) = by (p x) (place-most p xs)
  where
    by : (b : Bool) → position_or_len p xs ≤ length xs → cond (not b) (1 + position_or_len p xs) 0 ≤ suc (length xs)
    by true more = omega arith
    by false more = omega (arith, more)

-- the first place of a viewed list that passes a test, if there is one, is that of the items' views
pub position_viewed : {X Y : Type 0} (view : X → Y) (p : Y → Bool) (xs : List X) → position p (map view xs) ≡ position (λ x. p (view x)) xs
position_viewed view p xs =
    ap (λ (n : ℕ). found n (length (map view xs))) (place_viewed view p xs) ∙ ap (found (position_or_len (λ x. p (view x)) xs)) (length-map xs view)

-- the place where a price list is found among the lists is its number
pub number_found : (lists : List (List ℕ)) (prices : List ℕ) (n : ℕ) → Some n ≡ place_in lists prices → n ≡ number_in lists prices
unfolding place_in
number_found lists prices n e = number-some (number_in lists prices) (length lists) n (nat_lt (number_in lists prices) (length lists)) refl e

-- the number of a price list that is not among the lists is their count
pub number_lost : (lists : List (List ℕ)) (prices : List ℕ) → None ≡ place_in lists prices → length lists ≡ number_in lists prices
unfolding place_in
number_lost lists prices e = number-none (number_in lists prices) (length lists) (nat_lt (number_in lists prices) (length lists)) refl e (place-most (λ list. pointwise nat_eq prices list) lists)

-- a list that is new goes behind the others
pub added : {V : Type 0} (view : V → List ℕ) (eq : V → V → Bool) (ks new : List V) (k : V) → list_any (eq k) ks ≡ false → new ≡ insert_key eq ks k
    → map view new ≡ map view ks ++ view k ∷ []
added view eq ks new k fresh n = rw (n, fresh) (map-append view ks (k ∷ []))

-- ---- the lists of a tree

-- the lists gathered from a record on are those gathered behind it, with its own prices among the lists
pub gathered_more : (lists new : List (List ℕ)) (nodes : List TreeNode) (i : ℕ) (d : TreeNode) (o : Option (List ℕ)) → i < length nodes → record_prices (get_or nodes i d) ≡ o → with_some lists o ≡ new → gathered lists (drop i nodes) ≡ gathered new (drop (i + 1) nodes)
unfolding gathered
gathered_more lists new nodes i d o lt e w =
    ap (gathered lists) (drop_more nodes i d lt)
    ∙ ap (λ p. gathered (with_some lists p) (drop (i + 1) nodes)) e
    ∙ ap (λ ls. gathered ls (drop (i + 1) nodes)) w

-- behind a record with prices, once these are among the lists, the same is gathered as from it on
pub gathered_some : (lists new : List (List ℕ)) (nodes : List TreeNode) (i : ℕ) (d : TreeNode) (ps : List ℕ) → i < length nodes → Some ps ≡ record_prices (get_or nodes i d) → new ≡ with_list lists ps → gathered new (drop (i + 1) nodes) ≡ gathered lists (drop i nodes)
gathered_some lists new nodes i d ps lt e w = sym (gathered_more lists new nodes i d (Some ps) lt (sym e) (sym w))

-- behind a record without prices the same lists are gathered as from it on
pub gathered_none : (lists : List (List ℕ)) (nodes : List TreeNode) (i : ℕ) (d : TreeNode) → i < length nodes → None ≡ record_prices (get_or nodes i d) → gathered lists (drop (i + 1) nodes) ≡ gathered lists (drop i nodes)
gathered_none lists nodes i d lt e = sym (gathered_more lists lists nodes i d None lt (sym e) refl)

-- behind the last record no further list is gathered
pub gathered_end : (lists : List (List ℕ)) (nodes : List TreeNode) (i : ℕ) → length nodes ≤ i → gathered lists (drop i nodes) ≡ lists
unfolding gathered
gathered_end lists nodes i ge = ap (gathered lists) (drop_all i nodes ge)
