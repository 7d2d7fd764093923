-- What a deck has put, popped and stolen only grows.
use Rattle.std.proofs.Common.{◌≡◌, ◌≢◌, ℕ, List, [], ◌∷◌, ◌++◌, refl, ap, sym, subst, ◌∙◌, append_assoc, append-nil, Option, Some, None, IfSome, IfNone, Result, Ok, Err, IfOk, OnErr}
use Rattle.std.specs.declared.alloc.AllocError.{AllocError}
use mathlib.Core.Logic.{dite}
use mathlib.Core.List.{IsPrefix}
use native.Mathlib.Decide.{ℕ_discrete}
use Rattle.block_deques.specs.declared.block.Block.{Block}
use Rattle.block_deques.specs.declared.deck.Deck.{Deck}
use Rattle.block_deques.specs.Decks.{IsSameDeck, put_by, popped_by, stolen_by, HasNotStolen, GoesOn}

begins_same : {A : Type 0} (xs ys : List A) → ys ≡ xs → IsPrefix xs ys
begins_same xs ys same = ([], append-nil xs ∙ sym same)

begins_more : {A : Type 0} (xs ys zs : List A) → IsPrefix xs ys → IsPrefix ys zs → IsPrefix xs zs
begins_more xs ys zs p q = (p.0 ++ q.0, sym (append_assoc xs p.0 q.0) ∙ (ap (λ w. w ++ q.0) p.1 ∙ q.1))

-- a deck to which nothing is done
pub goes_same : (d : Deck) → GoesOn d d
goes_same d = record { same = refl; put = begins_same _ _ refl; popped = begins_same _ _ refl; stolen = λ victim. begins_same _ _ refl }

-- one call behind the other
pub goes_more : (a b c : Deck) → GoesOn a b → GoesOn b c → GoesOn a c
goes_more a b c p q = record {
  same = q.same ∙ p.same;
  put = begins_more _ _ _ p.put q.put;
  popped = begins_more _ _ _ p.popped q.popped;
  stolen = λ victim. begins_more _ _ _ (p.stolen victim) (q.stolen victim);
}

-- a deck that puts a block, or finds no place for it
pub goes_put : (r : Result ℕ AllocError) (block : ℕ → Block) (d e : Deck) → IsSameDeck d e → IfOk r (λ index. put_by e ≡ put_by d ++ block index ∷ []) → OnErr r (put_by e ≡ put_by d) → popped_by e ≡ popped_by d → HasNotStolen d e → GoesOn d e
goes_put (Ok index) block d e same put refused popped stolen =
    record { same = same; put = (block index ∷ [], sym put); popped = begins_same _ _ popped; stolen = λ victim. begins_same _ _ (stolen victim) }
goes_put (Err wanting) block d e same put refused popped stolen =
    record { same = same; put = begins_same _ _ refused; popped = begins_same _ _ popped; stolen = λ victim. begins_same _ _ (stolen victim) }

-- a deck that pops
pub goes_pop : (r : Option Block) (d e : Deck) → IsSameDeck d e → put_by e ≡ put_by d → IfSome r (λ block. popped_by e ≡ popped_by d ++ block ∷ []) → IfNone r (popped_by e ≡ popped_by d) → HasNotStolen d e → GoesOn d e
goes_pop (Some block) d e same put popped none_there stolen =
    record { same = same; put = begins_same _ _ put; popped = (block ∷ [], sym popped); stolen = λ victim. begins_same _ _ (stolen victim) }
goes_pop None d e same put popped none_there stolen =
    record { same = same; put = begins_same _ _ put; popped = begins_same _ _ none_there; stolen = λ victim. begins_same _ _ (stolen victim) }

from_victim : (r : Option Block) (d e : Deck) (victim : ℕ) → IfSome r (λ block. stolen_by e victim ≡ stolen_by d victim ++ block ∷ []) → IfNone r (stolen_by e victim ≡ stolen_by d victim) → IsPrefix (stolen_by d victim) (stolen_by e victim)
from_victim (Some block) d e victim stolen none_there = (block ∷ [], sym stolen)
from_victim None d e victim stolen none_there = begins_same _ _ none_there

-- a deck that steals
pub goes_steal : (r : Option Block) (victim : ℕ) (d e : Deck) → IsSameDeck d e → put_by e ≡ put_by d → popped_by e ≡ popped_by d → IfSome r (λ block. stolen_by e victim ≡ stolen_by d victim ++ block ∷ []) → IfNone r (stolen_by e victim ≡ stolen_by d victim)
    → ((deck : ℕ) → deck ≢ victim → stolen_by e deck ≡ stolen_by d deck) → GoesOn d e
goes_steal r victim d e same put popped stolen none_there others = record {
  same = same;
  put = begins_same _ _ put;
  popped = begins_same _ _ popped;
  stolen = λ deck. dite (ℕ_discrete deck victim)
      (λ (is : deck ≡ victim). subst (λ (k : ℕ). IsPrefix (stolen_by d k) (stolen_by e k)) (sym is) (from_victim r d e victim stolen none_there))
      (λ ne. begins_same _ _ (others deck ne));
}
