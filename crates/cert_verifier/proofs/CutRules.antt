-- Cuts break no rule exactly where they are a list of cuts, and there is at most one first broken rule.
use Rattle.std.proofs.Common.{◌≡◌, ℕ, zero, suc, ◌<◌, ◌≤◌, inl, inr, List, length, Some, None, refl, sym, subst, ◌∙◌, arith}
use Rattle.link_steps.proofs.Order.{either_way}
use Rattle.plan_base.specs.declared.parts.Parts.{Parts}
use Rattle.proof_tree.specs.declared.limits.TheConstants.{MAX_CUTS}
use Rattle.proof_tree.specs.declared.cuts.Cut.{Cut}
use Rattle.proof_tree.specs.Cuts.{IsCutList}
use Rattle.cert_verifier.specs.declared.rejected.Rejected.{Rejected}
use Rattle.cert_verifier.specs.declared.rejected.Rejected.TheVariants.{Cuts}
use Rattle.cert_verifier.specs.PlanRules.{IsNewCut, CutsFind}
use Rattle.cert_verifier.proofs.FirstRules.{unless-none}
use Rattle.cert_verifier.proofs.RuleLaws.{then_by-none, FindsOne, unless-one, then_by-one}

-- where no rule is broken before a count, each cut before it is new
all_new : (p : Parts) (cuts : List Cut) (n : ℕ) → CutsFind p cuts n None → (i : ℕ) → i < n → IsNewCut p cuts i
all_new p cuts zero none i below = absurd (let bad : i < 0 = below in omega arith)
all_new p cuts (suc n) none i below =
    let both = then_by-none none in
    elim (either_way n i) [
      | inl last ↦ (let same : n ≡ i = omega arith in subst (λ (k : ℕ). IsNewCut p cuts k) same (unless-none _ _ both.1))
      | inr before ↦ all_new p cuts n both.0 i before
    ]

-- few enough cuts that break no rule are a list of cuts of the instance
pub cuts_found_none : (p : Parts) (cuts : List Cut) → length cuts ≤ MAX_CUTS → CutsFind p cuts (length cuts) None → IsCutList p cuts
cuts_found_none p cuts few none =
    record {
      few = few;
      are_cuts = λ i within. (all_new p cuts (length cuts) none i within).is_cut;
      different = λ i j less within. (all_new p cuts (length cuts) none j within).is_new i less;
    }

-- and so it is the other way round
none_before : (p : Parts) (cuts : List Cut) (n : ℕ) → ((i : ℕ) → i < n → IsNewCut p cuts i) → CutsFind p cuts n None
none_before p cuts zero all = refl
none_before p cuts (suc n) all = inr (none_before p cuts n (λ i below. all i (omega arith)), inl (all n (omega arith), refl))

-- a list of cuts of the instance breaks no rule
pub cuts_find_none : (p : Parts) (cuts : List Cut) → IsCutList p cuts → CutsFind p cuts (length cuts) None
cuts_find_none p cuts is = none_before p cuts (length cuts) (λ i within. record { is_cut = is.are_cuts i within; is_new = λ j less. is.different j i less within })

-- of the first cuts there is at most one first broken rule
pub cuts_find_one : (p : Parts) (cuts : List Cut) (n : ℕ) → FindsOne (CutsFind p cuts n)
cuts_find_one p cuts zero a b x y = x ∙ sym y
cuts_find_one p cuts (suc n) a b x y = then_by-one (CutsFind p cuts n) _ (cuts_find_one p cuts n) (unless-one _ _) a b x y

-- no rule is broken by the first cuts
pub cuts_next : (p : Parts) (cuts : List Cut) (n : ℕ) → CutsFind p cuts n None → IsNewCut p cuts n → CutsFind p cuts (suc n) None
cuts_next p cuts n none new = inr (none, inl (new, refl))

-- the first broken rule stays the first, however many cuts follow
stays_first : (p : Parts) (cuts : List Cut) (fault : Rejected) (m n : ℕ) → m ≤ n → CutsFind p cuts m (Some fault) → CutsFind p cuts n (Some fault)
stays_first p cuts fault m zero le found = let same : m ≡ 0 = omega arith in subst (λ (k : ℕ). CutsFind p cuts k (Some fault)) same found
stays_first p cuts fault m (suc n) le found =
    elim (either_way (suc n) m) [
      | inl last ↦ (let same : m ≡ suc n = omega arith in subst (λ (k : ℕ). CutsFind p cuts k (Some fault)) same found)
      | inr before ↦ inl (refl, stays_first p cuts fault m n (omega arith) found)
    ]

-- the first cut that is none of the instance, or is the same as an earlier one, is told of all the cuts
pub cuts_fault : (p : Parts) (cuts : List Cut) (n : ℕ) → n < length cuts → CutsFind p cuts n None → (IsNewCut p cuts n → ⊥) → CutsFind p cuts (length cuts) (Some (Cuts n))
cuts_fault p cuts n within none broken = stays_first p cuts (Cuts n) (suc n) (length cuts) (omega arith) (inr (none, inr (broken, refl)))
