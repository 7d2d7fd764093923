-- The steps of the links counted so far.
use Rattle.std.proofs.Common.{◌≡◌, ℕ, ◌+◌, ◌<◌, ◌≤◌, List, [], ◌∷◌, ◌++◌, length, get_or, refl, ap, arith, ◌∙◌, ◌⊎◌, inl, inr}
use Rattle.std.proofs.lemmas.Bool.{cases_lt}
use Rattle.std.proofs.lemmas.List.{length-append, get_or_append_left}
use Rattle.std.proofs.lemmas.List.Sums.{sum_by-append, sum_by-cons}
use Rattle.std.proofs.Math.Seq.{get_or-append_seam}
use Rattle.plan_base.specs.declared.parts.Parts.{Parts}
use Rattle.plan_base.specs.Facts.{total_load}
use Rattle.plan_base.specs.Arcs.{link_at}
use Rattle.link_steps.specs.Costs.{HasSteps}
use Rattle.plan_report.specs.Lines.{HaveSteps}

-- before any link is counted, there are no steps
pub no_steps : (p : Parts) → HaveSteps p 0 0
no_steps p = record { steps = []; one_each = refl; each = λ e within. absurd (omega arith); together = refl }

each-more : (p : Parts) (count steps : ℕ) (have : List ℕ) → length have ≡ count
    → ((e : ℕ) → e < count → HasSteps p.law (total_load p) (link_at p e) (get_or have e 0))
    → HasSteps p.law (total_load p) (link_at p count) steps
    → (e : ℕ) → e < count + 1 → (e < count) ⊎ (count ≤ e) → HasSteps p.law (total_load p) (link_at p e) (get_or (have ++ steps ∷ []) e 0)
each-more p count steps have is_count each here e within (inl below) =
    rw (get_or_append_left have (steps ∷ []) 0 e (omega arith)) (each e below)
each-more p count steps have is_count each here e within (inr above) =
    let is_last : e ≡ length have = omega arith in
    let at : count ≡ e = omega arith in
    rw (is_last, get_or-append_seam have steps [] 0, is_count) here

-- the steps of one more link
pub more_steps : (p : Parts) (count all steps : ℕ) → HaveSteps p count all → HasSteps p.law (total_load p) (link_at p count) steps → HaveSteps p (count + 1) (all + steps)
more_steps p count all steps have here = record {
  steps = have.steps ++ steps ∷ [];
  one_each = length-append have.steps (steps ∷ []) ∙ ap (λ n. n + 1) have.one_each;
  each = λ e within. each-more p count steps have.steps have.one_each have.each here e within (cases_lt e count);
  together = omega (arith, have.together, sum_by-append (λ n. n) have.steps (steps ∷ []), sum_by-cons (λ n. n) steps []);
}
