-- Which numbers are refused.
use Rattle.std.proofs.Common.{◌≡◌, ℕ, ◌+◌, ◌↔◌, ◌==◌, Bool, not, List, length, take, Option, None, sym, ap, ◌∙◌}
use Rattle.std.specs.Prelude.{IsTrue}
use Rattle.std.proofs.lemmas.Bool.{eq-eqb}
use Rattle.plan_base.specs.declared.parts.Parts.{Parts}
use Rattle.plan_base.specs.First.{◌or_else◌, when, first_in}
use Rattle.plan_base.specs.Places.{places}
use Rattle.plan_base.proofs.Bools.{not-true}
use Rattle.plan_base.proofs.FirstFault.{none-when}
use Rattle.proof_tree.specs.declared.cuts.Cut.{Cut}
use Rattle.cut_values.specs.Numbers.{AreNumbers}
use Rattle.search_machine.specs.declared.answers.Publish.TheVariants as publish
use Rattle.search_machine.specs.Publishing.{price_fault, unlawful_fault}
use Rattle.search_machine.proofs.RefusedNumbers.{unlawful-told}

passed : {F : Type 0} (first rest : Option F) → first ≡ None → (first or_else rest) ≡ rest
passed first rest none = ap (λ (o : Option _). o or_else rest) none

-- where there are as many numbers as there have to be and no price is above the limit, a test of them tells the refusal
pub refusal-told : (p : Parts) (cuts : List Cut) (numbers : List ℕ) (b : Bool) → IsTrue b ↔ AreNumbers p cuts numbers → length numbers ≡ places p + length cuts → first_in (price_fault p) (take (places p) numbers) ≡ None
    → when (not b) publish.Unlawful
    ≡ (when (not (length numbers == places p + length cuts)) (publish.PriceCount (places p + length cuts)) or_else first_in (price_fault p) (take (places p) numbers) or_else unlawful_fault p cuts numbers)
refusal-told p cuts numbers b told count over =
    unlawful-told p cuts numbers b told count over
    ∙ sym (passed _ _ (none-when _ (publish.PriceCount (places p + length cuts)) (not-true _ (eq-eqb (length numbers) (places p + length cuts) count)))
    ∙ passed _ (unlawful_fault p cuts numbers) over)
