use Rattle.std.proofs.Common.{◌≡◌, ◌≢◌, ℕ, zero, suc, ◌+◌, ◌≤◌, List, [], ◌∷◌, sum_by, ◌⊎◌, inl, inr, refl, ap, sym, subst, ◌∙◌, arith, Option, Some}
use Rattle.std.proofs.lemmas.List.Sums.{sum_by-cons}
use mathlib.Core.Logic.{dite}
use mathlib.Core.Option.{some, some-injective, some-ne-none}
use native.Mathlib.Decide.{ℕ_discrete}
use lib.ListN.{get_elem?}
use Rattle.atomic_table.specs.Table.{Final, Seen}
use Rattle.ticket_turns.specs.declared.view.Entry.{Entry}
use Rattle.ticket_turns.specs.declared.view.Stage.{Stage}
use Rattle.ticket_turns.specs.declared.view.Stage.TheVariants.{Idle, Waiting, Holding}
use Rattle.ticket_turns.specs.declared.view.View.{View}
use Rattle.ticket_turns.specs.Histories.{Leading}
use Rattle.ticket_turns.specs.Rules.{TableState, StageFits, HoldsSlot, IsHome, IsOut, all_draws, Kept}
use Rattle.ticket_turns.specs.Passes.{IsAtEnd}
use Rattle.ticket_turns.proofs.Keeping.{idle_holds_none}

-- Whoever has every part finds the value in the slot.

module _ {C : Type 0} where
  -- what one view has is at most what all have
  least : (f : View C → ℕ) (vs : List (View C)) (id : ℕ) (v : View C) → get_elem? vs id ≡ some v → f v ≤ sum_by f vs
  least f [] id v at = absurd (some-ne-none v (sym at))
  least f (x ∷ xs) zero v at = let e : f x ≡ f v = ap f (some-injective x v at) in omega (arith, sum_by-cons f x xs)
  least f (x ∷ xs) (suc id) v at = let r = least f xs id v at in omega (arith, sum_by-cons f x xs)

  nothing : (vs : List (View C)) (j : ℕ) (u : View C) → get_elem? vs j ≡ some u → sum_by (λ z. z.parts) vs ≡ 0 → u.parts ≡ 0
  nothing vs j u at none_there = let le = least (λ (z : View C). z.parts) vs j u at in omega arith

  -- whoever has every part knows that no other has one
  alone : (vs : List (View C)) (id j : ℕ) (v u : View C) → j ≢ id → get_elem? vs id ≡ some v → get_elem? vs j ≡ some u → v.parts ≡ sum_by (λ z. z.parts) vs → u.parts ≡ 0
  alone [] id j v u ne at there all = absurd (some-ne-none v (sym at))
  alone (x ∷ xs) zero zero v u ne at there all = absurd (ne refl)
  alone (x ∷ xs) zero (suc j) v u ne at there all =
      let e : x.parts ≡ v.parts = ap (λ (z : View C). z.parts) (some-injective x v at) in
      nothing xs j u there (omega (arith, sum_by-cons (λ (z : View C). z.parts) x xs))
  alone (x ∷ xs) (suc id) zero v u ne at there all =
      let le = least (λ (z : View C). z.parts) xs id v at in
      let e : x.parts ≡ u.parts = ap (λ (z : View C). z.parts) (some-injective x u there) in
      omega (arith, sum_by-cons (λ (z : View C). z.parts) x xs)
  alone (x ∷ xs) (suc id) (suc j) v u ne at there all =
      let le = least (λ (z : View C). z.parts) xs id v at in
      alone xs id j v u (λ e. ne (ap suc e)) at there (omega (arith, sum_by-cons (λ (z : View C). z.parts) x xs))

  holds_without : (tickets serving : ℕ) (history : List (Entry C)) (v : View C) (stage : Stage) → v.parts ≡ 0 → StageFits tickets serving history v stage → HoldsSlot stage → ⊥
  holds_without tickets serving history v Idle none_there f holds = holds
  holds_without tickets serving history v (Waiting t) none_there f holds = holds
  holds_without tickets serving history v (Holding t raised) none_there f holds = let some_part = f.2 in absurd (omega arith)

module _ {D C : Type 0} (leads : Leading D C) (callers : ℕ) (id : ℕ) (v : View C) where
  left_home : (s : TableState D C) (k : Kept leads callers s) → get_elem? s.views id ≡ some v → v.parts ≡ callers → v.stage ≡ Idle → IsHome leads k.serving k.history s ⊎ IsOut k.serving k.history s → IsHome leads k.serving k.history s
  left_home s k at all idle (inl h) = h
  left_home s k at all idle (inr a) =
      let holds : HoldsSlot a.view.stage = subst HoldsSlot (sym a.stage) tt in
      absurd (dite (ℕ_discrete a.holder id)
      (λ e. idle_holds_none v.stage idle (subst (λ (z : View C). HoldsSlot z.stage) (some-injective _ _ (sym a.here ∙ (ap (get_elem? s.views) e ∙ at))) holds))
      (λ ne. holds_without k.tickets k.serving k.history a.view a.view.stage (alone s.views id a.holder v a.view ne at a.here (all ∙ sym k.parts)) (k.each a.holder a.view a.here).stage holds))

  -- the slot has a value to which the history leads
  pub ends : (words : List ℕ) (slots : List (Option D)) → v.parts ≡ callers → v.stage ≡ Idle → Final (Seen (Kept leads callers) id v) words slots
      → (value : D) × (get_elem? slots 0 ≡ some (Some value)) × IsAtEnd leads callers v value
  ends words slots all idle f =
      let s = f.0 in
      let k = f.1.0 in
      let h = left_home s k f.1.1 all idle k.place in
      let fits = k.each id v f.1.1 in
      let all : k.tickets + sum_by (λ (u : View C). u.draws) s.views ≡ all_draws callers = k.draws in
      let own : v.draws ≤ sum_by (λ (u : View C). u.draws) s.views = least (λ (u : View C). u.draws) s.views id v f.1.1 in
      let order = k.order in
      let long = h.long in (
        h.value,
        f.4 0 (Some h.value) (ap (λ hs. get_elem? hs 0) h.homes),
        record { history = k.history; can = h.can; long = omega arith; seen = fits.seen; own = fits.own },
      )

-- the value that is found in the slot is the one that was put
pub same_value : {D : Type 0} (slots : List (Option D)) (p q : D) (found : Option D) → get_elem? slots 0 ≡ some (Some p) → get_elem? slots 0 ≡ some found → found ≡ Some q → p ≡ q
same_value slots p q found there here is = let e : Some p ≡ found = some-injective _ _ (sym there ∙ here) in cc (e, is)
