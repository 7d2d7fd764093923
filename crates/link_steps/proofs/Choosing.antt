-- How the next step is chosen, module by module.
use Rattle.std.proofs.Common.{◌≡◌, ℕ, ◌+◌, ◌<◌, ◌≤◌, inl, inr, List, length, Option, Some, None, arith}
use Rattle.std.proofs.Math.ListN.{set, length-set}
use Rattle.std.proofs.lemmas.List.{get_or-set_same, get_or-set_other}
use Rattle.plan_base.specs.declared.parts.Link.{Link}
use Rattle.link_steps.specs.declared.step.Step.{Step}
use Rattle.link_steps.specs.Steps.{IsNoWorse, IsNotWorse, Beats, IsPassedBy, AreStarts}
use Rattle.link_steps.proofs.Order.{before_or_last, same_or_not}

IsNoWorse-trans : (a b c : Step) → IsNoWorse a b → IsNoWorse b c → IsNoWorse a c
IsNoWorse-trans a b c h k =
    record { cost = omega (arith, h.cost, k.cost); reach = λ cheap. omega (arith, h.reach (omega (arith, k.cost)), k.reach (omega (arith, h.cost))) }

-- what is no worse beats as much
pub Beats-not_worse : (l : Link) (steps : List Step) (a b : Option Step) (m : ℕ) → IsNotWorse a b → Beats l steps b m → Beats l steps a m
Beats-not_worse l steps None None m no_worse beats = beats
Beats-not_worse l steps (Some x) None m no_worse beats = λ j within past. absurd (omega (arith, beats j within))
Beats-not_worse l steps None (Some y) m no_worse beats = absurd no_worse
Beats-not_worse l steps (Some x) (Some y) m no_worse beats = λ j within past. IsNoWorse-trans x y _ no_worse (beats j within past)

-- a step that may be missing is no worse than itself
pub IsNotWorse-same : (best : Option Step) → IsNotWorse best best
IsNotWorse-same None = tt
IsNotWorse-same (Some step) = record { cost = omega arith; reach = λ cheap. omega arith }

-- where no step with the module added goes past the last one, nothing is better
pub Beats-passed : (l : Link) (steps : List Step) (best : Option Step) (m : ℕ) → IsPassedBy l steps m (length steps) → Beats l steps best m
Beats-passed l steps None m passed = λ j within. passed j within
Beats-passed l steps (Some best) m passed = λ j within past. absurd (omega (arith, passed j within))

-- the modules before one, and that one
pub Beats-next : (l : Link) (steps : List Step) (result best : Option Step) (n : ℕ) → IsNotWorse result best → ((m : ℕ) → m < n → Beats l steps best m) → Beats l steps result n → (m : ℕ) → m < n + 1 → Beats l steps result m
Beats-next l steps result best n over_best before here m within =
    elim (before_or_last m n within) [
      | inl old ↦ Beats-not_worse l steps result best m over_best (before m old)
      | inr new ↦ rw new here
    ]

-- one place moves on
pub AreStarts-set : (l : Link) (steps : List Step) (starts : List ℕ) (n place : ℕ) → n < length starts → place ≤ length steps → IsPassedBy l steps n place → AreStarts l steps starts → AreStarts l steps (set starts n place)
AreStarts-set l steps starts n place within bound passed starts_ok =
    let long : length (set starts n place) ≡ length starts = length-set starts n place in
    record {
      count = rw long starts_ok.count;
      within = λ m below.
          elim (same_or_not m n) [
            | inl is ↦ rw (is, get_or-set_same {A = ℕ} starts n place 0 within) bound
            | inr is_not ↦ rw (get_or-set_other {A = ℕ} starts n m place 0 is_not) (starts_ok.within m (omega arith))
          ];
      passed = λ m below.
          elim (same_or_not m n) [
            | inl is ↦ rw (is, get_or-set_same {A = ℕ} starts n place 0 within) passed
            | inr is_not ↦ rw (get_or-set_other {A = ℕ} starts n m place 0 is_not) (starts_ok.passed m (omega arith))
          ];
    }
