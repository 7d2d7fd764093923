-- Two texts get one line of a check: a link has one count of steps.
use Rattle.std.proofs.Common.{◌≡◌, ℕ, ◌<◌, List, length, get_or, sym, ap, subst, ◌∙◌, ◌⊎◌, inl, inr, arith}
use Rattle.std.proofs.lemmas.Bool.{cases_order}
use Rattle.std.proofs.lemmas.Grind.{same_number_lists}
use Rattle.std.specs.Prelude.{sum_by}
use Rattle.plan_base.specs.declared.parts.CountLaw.{CountLaw}
use Rattle.plan_base.specs.declared.parts.Link.{Link}
use Rattle.plan_base.specs.declared.parts.Parts.{Parts}
use Rattle.plan_base.specs.Facts.{total_load}
use Rattle.plan_base.specs.Arcs.{link_at}
use Rattle.link_steps.specs.Costs.{HasSteps, HasMoreSteps}
use Rattle.plan_report.specs.Lines.{HaveSteps, check_line_with, IsCheckLine}
use Rattle.command_texts.specs.declared.status.Status.{Status}
use Rattle.command_texts.specs.Texts.{Texts}
use Rattle.command_texts.specs.Answers.{IsCheck, IsChecked, HasOneAnswer}
use Rattle.command_texts.specs.OneAnswer.{Below}
use Rattle.command_texts.proofs.OneRefusal.{same-parts}

-- what has so many steps has more than any smaller number
has-more : (law : CountLaw) (total : ℕ) (l : Link) (few many : ℕ) → few < many → HasSteps law total l many → HasMoreSteps law total l few
has-more law total l few many below has = record { costs = has.costs; are_costs = has.are_costs; more = omega (arith, below, has.count) }

-- a link does not have two counts of steps
no-less : Below → (law : CountLaw) (total : ℕ) (l : Link) (few many : ℕ) → few < many → HasSteps law total l few → HasSteps law total l many → ⊥
no-less below law total l few many less one two =
    below.few_or_many law l total few (record { number = few; has_steps = one; within = omega arith }) (has-more law total l few many less two)

same-count : Below → (law : CountLaw) (total : ℕ) (l : Link) (a b : ℕ) → HasSteps law total l a → HasSteps law total l b → (a ≡ b) ⊎ ((a < b) ⊎ (b < a)) → a ≡ b
same-count below law total l a b one two (inl same) = same
same-count below law total l a b one two (inr (inl less)) = absurd (no-less below law total l a b less one two)
same-count below law total l a b one two (inr (inr less)) = absurd (no-less below law total l b a less two one)

-- links have one count of steps together
same-steps : Below → (p : Parts) (count a b : ℕ) → HaveSteps p count a → HaveSteps p count b → a ≡ b
same-steps below p count a b one two =
    let same : one.steps ≡ two.steps = same_number_lists one.steps two.steps (one.one_each ∙ sym two.one_each)
    (λ e within. same-count below p.law (total_load p) (link_at p e) (get_or one.steps e 0) (get_or two.steps e 0) (one.each e (omega (arith, within, one.one_each))) (two.each e (omega (arith, within, one.one_each))) (cases_order (get_or one.steps e 0) (get_or two.steps e 0))) in
    one.together ∙ ap (sum_by (λ n. n)) same ∙ sym two.together

same-line : Below → (p : Parts) (bytes more : List ℕ) → IsCheckLine p bytes → IsCheckLine p more → bytes ≡ more
same-line below p bytes more one two = one.is ∙ ap (check_line_with p) (same-steps below p (length p.links) one.steps two.steps one.have two.have) ∙ sym two.is

-- two checks of the same texts have the same status and the same line
pub one_check : Below → HasOneAnswer IsChecked
one_check below texts status other bytes more one two =
    let instances : one.parts ≡ two.parts = same-parts below texts one.net two.net one.parts two.parts one.problem.reads two.problem.reads in
    let first : IsCheck two.parts status bytes = subst (λ (p : Parts). IsCheck p status bytes) instances one.holds in
    (first.good ∙ sym two.holds.good, same-line below two.parts bytes more first.line two.holds.line)
