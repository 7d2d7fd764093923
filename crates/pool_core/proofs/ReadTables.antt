-- What holds of an instance and a list of cuts, where both are read behind references.
use Rattle.std.proofs.Common.{◌≡◌, List, sym, ap, subst, ◌∙◌}
use Rattle.plan_base.specs.declared.parts.Parts.{Parts}
use Rattle.proof_tree.specs.declared.cuts.Cut.{Cut}
use Rattle.cut_values.specs.Numbers.{CutProblem}
use Rattle.search_machine.specs.State.{State}

-- what is so of the one instance and list is so of equal ones
pub of_equal : (P : Parts → List Cut → Type 0) (p q : Parts) (xs ys : List Cut) → p ≡ q → xs ≡ ys → P p xs → P q ys
of_equal P p q xs ys is same h = subst (λ (r : Parts). P r ys) is (subst (P p) same h)

-- what is kept is so of what is read
pub as_read : (P : Parts → List Cut → Type 0) (p q : Parts) (kept read : CutProblem) → q ≡ p → read ≡ kept → P p kept.cuts → P q read.cuts
as_read P p q kept read is same h = of_equal P p q kept.cuts read.cuts (sym is) (ap (λ (t : CutProblem). t.cuts) (sym same)) h

-- what is read is so of what is kept
pub as_kept : (P : Parts → List Cut → Type 0) (p q : Parts) (kept read : CutProblem) → q ≡ p → read ≡ kept → P q read.cuts → P p kept.cuts
as_kept P p q kept read is same h = of_equal P q p read.cuts kept.cuts is (ap (λ (t : CutProblem). t.cuts) same) h

-- the steps that are read of a pool's table are those of its instance
pub steps-problem : (s now : State) (kept read : CutProblem) (steps : Parts) → s ≡ now → read ≡ kept → kept.problem ≡ s.problem → steps ≡ read.problem → steps ≡ now.problem
steps-problem s now kept read steps is same table_is told = told ∙ (ap (λ (t : CutProblem). t.problem) same ∙ (table_is ∙ ap (λ (x : State). x.problem) is))
