-- A list of cuts may go on with one that is new to it.
use Rattle.std.proofs.Common.{◌≡◌, ◌≢◌, ℕ, ◌+◌, ◌-◌, ◌<◌, ◌≤◌, List, [], ◌∷◌, ◌++◌, length, take, inl, inr, sym, subst, ap, ◌∙◌, refl, arith}
use Rattle.std.proofs.Math.Seq.{get_or-append_seam}
use Rattle.std.proofs.lemmas.List.{length-append, get_or_append_left, take_at, take-take}
use Rattle.plan_base.specs.declared.parts.Parts.{Parts}
use Rattle.link_steps.proofs.Order.{before_or_last}
use Rattle.proof_tree.specs.declared.limits.TheConstants.{MAX_CUTS}
use Rattle.proof_tree.specs.declared.cuts.Cut.{Cut}
use Rattle.proof_tree.specs.Cuts.{cut_at, no_cut, IsCut, IsCutList}

before-at : (cuts : List Cut) (cut : Cut) (i : ℕ) → i < length cuts → cut_at (cuts ++ cut ∷ []) i ≡ cut_at cuts i
before-at cuts cut i below = get_or_append_left cuts (cut ∷ []) no_cut i below

last-at : (cuts : List Cut) (cut : Cut) (i : ℕ) → i ≡ length cuts → cut_at (cuts ++ cut ∷ []) i ≡ cut
last-at cuts cut i is = ap (λ (n : ℕ). cut_at (cuts ++ cut ∷ []) n) is ∙ get_or-append_seam cuts cut [] no_cut

-- no cut of the list is the one behind it
abbrev IsFresh : List Cut → Cut → Type 0
IsFresh cuts cut = (i : ℕ) → i < length cuts → cut_at (cuts ++ cut ∷ []) i ≢ cut_at (cuts ++ cut ∷ []) (length cuts)

with_cut : (p : Parts) (cuts : List Cut) (cut : Cut) → IsCutList p cuts → length cuts < MAX_CUTS → IsCut p cut → IsFresh cuts cut → IsCutList p (cuts ++ cut ∷ [])
with_cut p cuts cut is few is_cut fresh =
    let count : length (cuts ++ cut ∷ []) ≡ length cuts + 1 = length-append cuts (cut ∷ []) in
    record {
      few = omega (arith, count, few);
      are_cuts = λ i below. elim (before_or_last i (length cuts) (omega (arith, count, below))) [
        | inl before ↦ subst (IsCut p) (sym (before-at cuts cut i before)) (is.are_cuts i before)
        | inr last ↦ subst (IsCut p) (sym (last-at cuts cut i last)) is_cut
      ];
      different = λ i j before below. elim (before_or_last j (length cuts) (omega (arith, count, below))) [
        | inl first ↦ λ same. is.different i j before first (sym (before-at cuts cut i (omega (arith, before, first))) ∙ same ∙ before-at cuts cut j first)
        | inr last ↦ λ same. fresh i (omega (arith, before, last)) (same ∙ ap (λ (n : ℕ). cut_at (cuts ++ cut ∷ []) n) last)
      ];
    }

-- a list that has one cut more at its end, unlike all before
pub grown_list : (p : Parts) (cuts : List Cut) (cut : Cut) (new : List Cut) (n : ℕ) → new ≡ cuts ++ cut ∷ [] → n ≡ length cuts → IsCutList p cuts → length cuts < MAX_CUTS → IsCut p cut
    → ((i : ℕ) → i < n → cut_at new i ≢ cut_at new n) → IsCutList p new
grown_list p cuts cut new n is_new is_end is few is_cut fresh =
    let here : (i : ℕ) → i < length cuts → cut_at new i ≢ cut_at new (length cuts) = subst (λ (m : ℕ). (i : ℕ) → i < m → cut_at new i ≢ cut_at new m) is_end fresh in
    subst (IsCutList p) (sym is_new) (with_cut p cuts cut is few is_cut (subst (λ (list : List Cut). (i : ℕ) → i < length cuts → cut_at list i ≢ cut_at list (length cuts)) is_new here))

-- what a list has stays before a cut that is put behind it
pub kept_before : (old new : List Cut) (cut : Cut) → new ≡ old ++ cut ∷ [] → take (length old) new ≡ old
kept_before old new cut is = ap (take (length old)) is ∙ take_at old (cut ∷ []) (length old) refl

-- a list is as before once the cut behind it is gone
pub gone_again : (old more new : List Cut) (cut : Cut) (n : ℕ) → more ≡ old ++ cut ∷ [] → new ≡ take (n - 1) more → n ≡ length old + 1 → new ≡ old
gone_again old more new cut n is less count =
    let last : n - 1 ≡ length old = omega (arith, count) in
    less ∙ ap (λ (m : ℕ). take m more) last ∙ kept_before old more cut is

-- what a list has stays where it is in what goes on with one that goes on with it
pub kept_on : (old now new : List Cut) → take (length old) now ≡ old → take (length now) new ≡ now → length old ≤ length now → take (length old) new ≡ old
kept_on old now new before here few = sym (take-take (length old) (length now) new few) ∙ ap (take (length old)) here ∙ before
