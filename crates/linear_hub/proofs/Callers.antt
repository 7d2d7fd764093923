-- Lists of seats, of which one after another is taken in.
use Rattle.std.proofs.Common.{◌≡◌, ℕ, zero, suc, List, [], ◌∷◌, ◌++◌, length, ◌⊎◌, inl, inr, ⊎_elim, refl, ap, sym, subst, ◌∙◌, arith, append_assoc, Some, slice_get, All}
use Rattle.std.proofs.lemmas.List.Elements.{All-pop}
use mathlib.Core.List.{IsPrefix}
use lib.ListN.{take}
use Rattle.ticket_turns.specs.declared.view.Entry.{Entry}
use Rattle.block_deques.proofs.Places.{got_end}

-- a beginning of a beginning of a history is a beginning of it
pub prefix_trans : {A : Type 0} (xs ys zs : List A) → IsPrefix xs ys → IsPrefix ys zs → IsPrefix xs zs
prefix_trans xs ys zs p q = (p.0 ++ q.0, sym (append_assoc xs p.0 q.0) ∙ (ap (λ w. w ++ q.0) p.1 ∙ q.1))

-- what holds of each in a list holds of the last one and of those before it
pub last_of : {L : Type 0} (P : L → Type 0) (xs ys : List L) (x : L) → xs ≡ ys ++ x ∷ [] → All P xs → P x × All P ys
last_of P xs ys x e all = let t = All-pop P xs ys (Some x) e all in (t.1, t.0)

-- the caller was taken in, or it stands among those that are left
pub still : {L C : Type 0} (seen_by : L → List (Entry C)) (old ys : List L) (x s : L) (k : ℕ) (before after : List (Entry C)) → old ≡ ys ++ x ∷ [] → IsPrefix before after → IsPrefix (seen_by x) after
    → (slice_get old k ≡ Some s) ⊎ IsPrefix (seen_by s) before → (slice_get ys k ≡ Some s) ⊎ IsPrefix (seen_by s) after
still seen_by old ys x s k before after e more new (inl at) = ⊎_elim (λ t. inl t) (λ (t : (k ≡ length ys) × (x ≡ s)). inr (subst (λ z. IsPrefix (seen_by z) after) t.1 new))
    (got_end ys x s k (subst (λ xs. slice_get xs k ≡ Some s) e at))
still seen_by old ys x s k before after e more new (inr p) = inr (prefix_trans (seen_by s) before after p more)

-- the front of as many items as the first list has is that list
pub taken : {A : Type 0} (n : ℕ) (ys zs : List A) → n ≡ length ys → take n (ys ++ zs) ≡ ys
taken zero [] zs e = refl
taken zero (y ∷ ys) zs e = absurd (omega (arith, e))
taken (suc n) [] zs e = absurd (omega (arith, e))
taken (suc n) (y ∷ ys) zs e = ap (λ l. y ∷ l) (taken n ys zs (omega (arith, e)))

-- an empty list has no item
pub none_left : {A : Type 0} (xs : List A) (s : A) (k : ℕ) → length xs ≡ 0 → slice_get xs k ≡ Some s → ⊥
none_left [] s k z e = cc e
none_left (x ∷ xs) s k z e = absurd (omega arith)
