use Rattle.std.proofs.Common.{◌≡◌, ℕ, ◌+◌, length, ap, sym, subst, ◌∙◌, rules}
use Rattle.std.specs.Prelude.{ℤ, pos, ◌+ℤ◌, ◌*ℤ◌, ◌≤ℤ◌}
use Rattle.std.proofs.lemmas.Int.{to_z-of_z}
use mir.Syntax.{w128}
use mir.Val.{SFits, to_z, of_z}
use Rattle.proof_tree.specs.Bounds.{price_total}
use Rattle.proof_tree.specs.RatedBounds.{IsRatedTotal, cut_total}
use Rattle.proof_tree.specs.RatedEvidence.{rates_in}
use Rattle.bound_assembly.specs.RoundBounds.{length_of}
use Rattle.bound_assembly.proofs.SmallSums.{round_bound}
use Rattle.bound_assembly.proofs.totals.bound_of.Goals as goal

pub returns : goal.returns
returns c =
    let p = c.args.inst.now in
    let cuts = c.args.table.now.cuts in
    let numbers = c.args.numbers.now in
    let lengths = c.args.lengths.now in
    let values = c.value_total-values.result in
    let bound = c.up_to_grain.result in
    let values_fit : SFits w128 values = search rules in
    let total_fits : SFits w128 c.total_of-total.result = search rules in
    let bound_fits : SFits w128 bound = search rules in
    let counted : c.cut_total-counted.result ≡ cut_total p cuts (rates_in p numbers) = rw c.requires.table at c.cut_total-counted.ensures.value in
    let total_is : to_z w128 (of_z w128 c.total_of-total.result) ≡ (pos (price_total p (length_of lengths) + cut_total p cuts (rates_in p numbers)) +ℤ values) =
    to_z-of_z w128 c.total_of-total.result total_fits ∙ c.total_of-total.ensures
    ∙ ap (λ (v : ℤ). pos (c.price_total-priced.result + c.cut_total-counted.result) +ℤ v) (to_z-of_z w128 values values_fit)
    ∙ ap (λ (n : ℕ). pos (n + c.cut_total-counted.result) +ℤ values) c.price_total-priced.ensures.value
    ∙ ap (λ (n : ℕ). pos (price_total p (length_of lengths) + n) +ℤ values) counted in
    let has : IsRatedTotal p cuts c.args.ranges.now numbers (rates_in p numbers) (length p.links) values = rw c.requires.table at c.value_total-values.ensures in
    rw (to_z-of_z w128 bound bound_fits)
    (round_bound p cuts c.args.ranges.now numbers lengths values bound c.requires.full c.requires.length_count has
    (record {
      reaches = subst (λ (t : ℤ). t ≤ℤ (pos 1000 *ℤ bound)) total_is c.up_to_grain.ensures.reaches;
      least = λ other le. c.up_to_grain.ensures.least other (subst (λ (t : ℤ). t ≤ℤ (pos 1000 *ℤ other)) (sym total_is) le);
    }))
