-- What stands where after a label is written.
use Rattle.std.proofs.Common.{◌≡◌, ◌≢◌, ℕ, suc, ◌<◌, ◌≤◌, ◌⊎◌, inl, inr, true, false, nat_lt, [], ◌∷◌, ◌++◌, length, Option, Some, refl, sym, ◌∙◌, ap, arith, length-append}
use Rattle.std.proofs.Math.ListN.{set, length-set}
use Rattle.std.proofs.Math.Seq.{get_or-append_seam}
use Rattle.std.proofs.lemmas.Bool.{ltb-true, ltb-false}
use Rattle.std.proofs.lemmas.List.{get_or-set_same, get_or-set_other, get_or_append_left}
pub use Rattle.least_path.proofs.NearestLaws.{decide, same_or_not, lt_or_le, below_cases}
use Rattle.limited_path.specs.declared.label.Label.{Label}
use Rattle.limited_path.specs.Labels.{Labels, label_at, no_label, written}

-- a node has one latest label
pub some_same : (x : Option ℕ) (i j : ℕ) → x ≡ Some i → x ≡ Some j → i ≡ j
some_same x i j a b = cc

written-inside : (ls : Labels) (i : ℕ) (l : Label) → nat_lt i (length ls) ≡ true → written ls i l ≡ set ls i l
unfolding written
written-inside ls i l h = rw h refl

written-behind : (ls : Labels) (i : ℕ) (l : Label) → nat_lt i (length ls) ≡ false → written ls i l ≡ ls ++ l ∷ []
unfolding written
written-behind ls i l h = rw h refl

-- a written label stands at its place
pub written-here : (ls : Labels) (i : ℕ) (l : Label) → i ≤ length ls → label_at (written ls i l) i ≡ l
written-here ls i l within = elim (decide (nat_lt i (length ls))) [
  | inl inside ↦ ap (λ (xs : Labels). label_at xs i) (written-inside ls i l inside) ∙ get_or-set_same ls i l no_label (ltb-true i (length ls) inside)
  | inr behind ↦
      let at : i ≡ length ls = omega (arith, within, ltb-false i (length ls) behind) in
      ap (λ (xs : Labels). label_at xs i) (written-behind ls i l behind) ∙ ap (label_at (ls ++ l ∷ [])) at ∙ get_or-append_seam ls l [] no_label
]

-- a written label leaves the others
pub written-other : (ls : Labels) (i : ℕ) (l : Label) (j : ℕ) → j ≢ i → j < length ls → label_at (written ls i l) j ≡ label_at ls j
written-other ls i l j other below = elim (decide (nat_lt i (length ls))) [
  | inl inside ↦ ap (λ (xs : Labels). label_at xs j) (written-inside ls i l inside) ∙ get_or-set_other ls i j l no_label other
  | inr behind ↦ ap (λ (xs : Labels). label_at xs j) (written-behind ls i l behind) ∙ get_or_append_left ls (l ∷ []) no_label j below
]

-- how long the list is after a label is written
pub record IsLonger (ls : Labels) (i : ℕ) (l : Label) : Type 0 where
  pub kept : length ls ≤ length (written ls i l)
  pub here : i < length (written ls i l)
  pub rest : (j : ℕ) → j < length (written ls i l) → j ≢ i → j < length ls

-- a written label lengthens the list by at most itself
pub written-longer : (ls : Labels) (i : ℕ) (l : Label) → i ≤ length ls → IsLonger ls i l
written-longer ls i l within = elim (decide (nat_lt i (length ls))) [
  | inl inside ↦
      let size : length (written ls i l) ≡ length ls = ap length (written-inside ls i l inside) ∙ length-set ls i l in
      record {
        kept = omega (arith, size);
        here = omega (arith, size, ltb-true i (length ls) inside);
        rest = λ j below other. omega (arith, size, below);
      }
  | inr behind ↦
      let longer : length (ls ++ l ∷ []) ≡ suc (length ls) = simp length-append (omega arith) in
      let size : length (written ls i l) ≡ suc (length ls) = ap length (written-behind ls i l behind) ∙ longer in
      let at : i ≡ length ls = omega (arith, within, ltb-false i (length ls) behind) in
      record {
        kept = omega (arith, size);
        here = omega (arith, size, at);
        rest = λ j below other. elim (below_cases j (length ls) (omega (arith, size, below))) [ inl before ↦ before | inr last ↦ absurd (other (last ∙ sym at)) ];
      }
]

-- a label that was there before and is not the one that is written
pub record IsOld (ls : Labels) (i : ℕ) (l : Label) (j : ℕ) : Type 0 where
  pub other : j ≢ i
  pub within : j < length ls
  pub same : label_at (written ls i l) j ≡ label_at ls j

-- at another place stands the label that was there
pub old : (ls : Labels) (i : ℕ) (l : Label) (j : ℕ) → j ≢ i → j < length ls → IsOld ls i l j
old ls i l j other within = record { other = other; within = within; same = written-other ls i l j other within }

-- each place holds the written label or the one that was there
pub new_or_old : (ls : Labels) (i : ℕ) (l : Label) (j : ℕ) → i ≤ length ls → j < length (written ls i l) → (j ≡ i) ⊎ IsOld ls i l j
new_or_old ls i l j within below = elim (same_or_not j i) [
  | inl here ↦ inl here
  | inr other ↦ inr (old ls i l j other ((written-longer ls i l within).rest j below other))
]
