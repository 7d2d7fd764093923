use Rattle.std.proofs.Common.{◌≡◌, ◌≢◌, ℕ, zero, suc, ◌+◌, ◌<◌, List, [], ◌∷◌, ◌++◌, length, set, ◌⊎◌, inl, inr, ⊎_elim, refl, ap, sym, subst, ◌∙◌, arith, sum_by, append_assoc, Some}
use Rattle.std.proofs.lemmas.List.Sums.{sum_by-cons}
use mathlib.Core.Logic.{dite}
use mathlib.Core.Option.{some, some-injective, some-ne-none}
use mathlib.Core.List.{IsPrefix}
use native.Mathlib.Decide.{ℕ_discrete}
use lib.ListN.{get_elem?}
use Rattle.atomic_table.proofs.Lists.{at_set, set_here, set_else, at_longer}
use Rattle.ticket_turns.specs.declared.view.View.{View}
use Rattle.ticket_turns.specs.Rules.{ticket_of, IsHeld}

-- Lists of views, and beginnings of one list.

module _ {A : Type 0} where
  -- a history is a beginning of itself
  pub prefix_self : (xs : List A) → IsPrefix xs xs
  prefix_self [] = ([], refl)
  prefix_self (x ∷ xs) = (let r = prefix_self xs in r.0, ap (λ ys. x ∷ ys) (prefix_self xs).1)

  -- the empty history begins each
  pub prefix_nil : (xs : List A) → IsPrefix [] xs
  prefix_nil xs = (xs, refl)

  -- a beginning of a history begins what it grows to
  pub prefix_more : (xs ys zs : List A) → IsPrefix xs ys → IsPrefix xs (ys ++ zs)
  prefix_more xs ys zs p = (p.0 ++ zs, sym (append_assoc xs p.0 zs) ∙ ap (λ w. w ++ zs) p.1)

  -- a place with a view is within the list
  pub at_inside : (l : List A) (i : ℕ) (a : A) → get_elem? l i ≡ some a → i < length l
  at_inside [] i a e = absurd (some-ne-none a (sym e))
  at_inside (x ∷ xs) zero a e = omega arith
  at_inside (x ∷ xs) (suc i) a e = let r = at_inside xs i a e in omega arith

  -- a place of the longer list is one of the shorter, or the last
  pub at_end : (l : List A) (a b : A) (j : ℕ) → get_elem? (l ++ a ∷ []) j ≡ some b → (get_elem? l j ≡ some b) ⊎ ((j ≡ length l) × (a ≡ b))
  at_end [] a b zero e = inr (refl, some-injective a b e)
  at_end [] a b (suc j) e = absurd (some-ne-none b (sym e))
  at_end (x ∷ xs) a b zero e = inl e
  at_end (x ∷ xs) a b (suc j) e = ⊎_elim (λ t. inl t) (λ (t : (j ≡ length xs) × (a ≡ b)). inr (ap suc t.0, t.1)) (at_end xs a b j e)

module _ {C : Type 0} where
  -- a sum over all views of which one changes
  pub total_set : (f : View C → ℕ) (vs : List (View C)) (i : ℕ) (v w : View C) → get_elem? vs i ≡ some v → sum_by f (set vs i w) + f v ≡ sum_by f vs + f w
  total_set f [] i v w at = absurd (some-ne-none v (sym at))
  total_set f (x ∷ xs) zero v w at = let e : f x ≡ f v = ap f (some-injective x v at) in omega (arith, sum_by-cons f x xs, sum_by-cons f w xs, e)
  total_set f (x ∷ xs) (suc i) v w at = let r = total_set f xs i v w at in omega (arith, sum_by-cons f x xs, sum_by-cons f x (set xs i w), r)

  -- after one view has changed, what holds of the new one and of the others holds of all
  pub each_set : (F : ℕ → View C → Type 0) (vs : List (View C)) (i : ℕ) (w : View C) → F i w → ((j : ℕ) (u : View C) → j ≢ i → get_elem? vs j ≡ some u → F j u)
      → (j : ℕ) (u : View C) → get_elem? (set vs i w) j ≡ some u → F j u
  each_set F vs i w here others j u at = ⊎_elim
      (λ (t : (j ≡ i) × (w ≡ u)). subst (λ (z : ℕ × View C). F z.0 z.1) (λ k. (sym t.0 k, t.1 k)) here)
      (λ (t : (j ≢ i) × (get_elem? vs j ≡ some u)). others j u t.0 t.1)
      (at_set vs i j w u at)

  -- the same after one view has come last
  pub each_snoc : (F : View C → Type 0) (vs : List (View C)) (w : View C) → ((j : ℕ) (u : View C) → get_elem? vs j ≡ some u → F u) → F w
      → (j : ℕ) (u : View C) → get_elem? (vs ++ w ∷ []) j ≡ some u → F u
  each_snoc F vs w others last j u at = ⊎_elim (λ t. others j u t) (λ (t : (j ≡ length vs) × (w ≡ u)). subst F t.1 last) (at_end vs w u j at)

  -- who has a ticket has it still when a view has changed that keeps this ticket
  pub held_set : (vs : List (View C)) (i : ℕ) (v w : View C) (t : ℕ) → get_elem? vs i ≡ some v → (ticket_of v.stage ≡ Some t → ticket_of w.stage ≡ Some t) → IsHeld vs t → IsHeld (set vs i w) t
  held_set vs i v w t at keeps h = dite (ℕ_discrete h.0 i)
      (λ same. (
        i,
        w,
        set_here vs i w (at_inside vs i v at),
        keeps (ap (λ (u : View C). ticket_of u.stage) (some-injective v h.1 (sym at ∙ (ap (get_elem? vs) (sym same) ∙ h.2))) ∙ h.3),
      ))
      (λ other. (h.0, h.1, set_else vs i h.0 w other ∙ h.2, h.3))

  -- the view that has changed has the ticket
  pub held_here : (vs : List (View C)) (i : ℕ) (v w : View C) (t : ℕ) → get_elem? vs i ≡ some v → ticket_of w.stage ≡ Some t → IsHeld (set vs i w) t
  held_here vs i v w t at has = (i, w, set_here vs i w (at_inside vs i v at), has)

  -- who has a ticket has it still when a view has come last
  pub held_snoc : (vs : List (View C)) (w : View C) (t : ℕ) → IsHeld vs t → IsHeld (vs ++ w ∷ []) t
  held_snoc vs w t h = (h.0, h.1, at_longer vs (w ∷ []) h.0 h.1 h.2, h.3)
