-- How a loop finds the first fault, for the loops of this crate.
use Rattle.std.proofs.Common.{◌≡◌, ℕ, ◌+◌, ◌<◌, ◌*◌, Bool, List, length, Option, Some, None, refl, subst, ◌∙◌, arith}
use Rattle.plan_base.specs.declared.parts.Parts.{Parts}
use Rattle.plan_base.specs.First.{◌or_else◌, first_fault}
use Rattle.plan_base.proofs.FirstFault.{or_else-none, first_fault-here, first_fault-next}
use Rattle.arc_restrict.specs.Restrictions.{Forbidden}
use Rattle.path_pricing.specs.declared.priced.Unfit.{Unfit}
use Rattle.path_pricing.specs.Faults.{arc_id, leaving_fault, first_leaving}

-- neither of the next two checks finds a fault
pub first_fault-next_two : {F : Type 0} (check : ℕ → Option F) (n : ℕ) → first_fault check (2 * n) ≡ None → (check (2 * n) or_else check (2 * n + 1)) ≡ None → first_fault check (2 * (n + 1)) ≡ None
first_fault-next_two check n before none =
    let both = or_else-none (check (2 * n)) (check (2 * n + 1)) none in
    let same : 2 * n + 1 + 1 ≡ 2 * (n + 1) = omega arith in
    subst (λ m. first_fault check m ≡ None) same (first_fault-next check (2 * n + 1) (first_fault-next check (2 * n) before both.0) both.1)

here_of_two : {F : Type 0} (check : ℕ → Option F) (e : F) (n m : ℕ) (first : Option F) → check (2 * n) ≡ first → first_fault check (2 * n) ≡ None → (first or_else check (2 * n + 1)) ≡ Some e → n < m
    → first_fault check (2 * m) ≡ Some e
here_of_two check e n m None here before found within = first_fault-here check e (2 * n + 1) (2 * m) (first_fault-next check (2 * n) before here) found (omega arith)
here_of_two check e n m (Some x) here before found within = first_fault-here check e (2 * n) (2 * m) before (here ∙ found) (omega arith)

-- one of the next two checks finds the first fault
pub first_fault-here_two : {F : Type 0} (check : ℕ → Option F) (e : F) (n m : ℕ) → first_fault check (2 * n) ≡ None → (check (2 * n) or_else check (2 * n + 1)) ≡ Some e → n < m → first_fault check (2 * m) ≡ Some e
first_fault-here_two check e n m before found within = here_of_two check e n m (check (2 * n)) refl before found within

-- the first arc that leaves the set
pub leaving-here : (p : Parts) (k : ℕ) (r : Forbidden) (reached : List Bool) (n : ℕ) (e : Unfit) → first_fault (λ i. leaving_fault p k r reached (arc_id i)) n ≡ None → leaving_fault p k r reached (arc_id n) ≡ Some e → n < 2 * length p.links → first_leaving p k r reached ≡ Some e
leaving-here p k r reached n e before here within = first_fault-here (λ i. leaving_fault p k r reached (arc_id i)) e n (2 * length p.links) before here within
