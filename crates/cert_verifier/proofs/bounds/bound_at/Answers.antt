use Rattle.std.proofs.Common.{◌≡◌, ap, sym, subst, ◌∙◌, ◌+◌, rules}
use Rattle.std.specs.Prelude.{ℤ, pos, ◌+ℤ◌, ◌*ℤ◌, ◌≤ℤ◌}
use Rattle.std.proofs.lemmas.Int.{to_z-of_z}
use mir.Syntax.{w128}
use mir.Val.{SFits, to_z, of_z}
use Rattle.verifier_paths.specs.Kept.{forbidden_by}
use Rattle.cert_verifier.specs.Totals.{IsPriceTotal}
use Rattle.cert_verifier.specs.Walks.{region_of_marks}
use Rattle.cert_verifier.proofs.BoundOfTotals.{sum-bounded, sum-not_above, totals_bound}
use Rattle.cert_verifier.proofs.bounds.bound_at.Goals as goal

pub total_of-requires-clause-bounded : goal.total_of-requires-clause-bounded
total_of-requires-clause-bounded c = sum-bounded _ _ _ _ _ c.in_ok-values-in-Some.values (search rules) c.lawful.ensures.link_count c.in_ok-values-in-Some.ensures

pub total_of-requires-clause-not_above : goal.total_of-requires-clause-not_above
total_of-requires-clause-not_above c = sum-not_above _ _ _ _ _ c.in_ok-values-in-Some.values (search rules) c.lawful.ensures.link_count c.in_ok-values-in-Some.ensures

pub returns-in_ok-values-in-Some-clause-bound : goal.returns-in_ok-values-in-Some-clause-bound
returns-in_ok-values-in-Some-clause-bound c =
    let at = c.args.at.now in
    let values = c.in_ok-values-in-Some.values in
    let bound = c.thousandth_up.result in
    let values_fit : SFits w128 values = search rules in
    let total_fits : SFits w128 c.total_of.result = search rules in
    let bound_fits : SFits w128 bound = search rules in
    let total_is : to_z w128 (of_z w128 c.total_of.result) ≡ (pos (c.in-Some.priced + c.counted_at-counted.result) +ℤ values) =
    to_z-of_z w128 c.total_of.result total_fits ∙ c.total_of.ensures ∙ ap (λ (v : ℤ). pos (c.in-Some.priced + c.counted_at-counted.result) +ℤ v) (to_z-of_z w128 values values_fit) in
    let priced : IsPriceTotal at.inst.now (forbidden_by at.forbidden.now) c.args.numbers.now c.in-Some.priced = rw (c.in-Some.is, c.as_slice.ensures.value) at c.in_ok-priced.ensures.total in
    rw (to_z-of_z w128 bound bound_fits)
    (totals_bound at.inst.now at.cuts.now (region_of_marks at.forbidden.now at.ranges.now) c.args.numbers.now c.in-Some.priced c.counted_at-counted.result values bound priced c.counted_at-counted.ensures.value c.in_ok-values-in-Some.ensures
    (record {
      reaches = subst (λ (t : ℤ). t ≤ℤ (pos 1000 *ℤ bound)) total_is c.thousandth_up.ensures.reaches;
      least = λ other le. c.thousandth_up.ensures.least other (subst (λ (t : ℤ). t ≤ℤ (pos 1000 *ℤ other)) (sym total_is) le);
    }))
