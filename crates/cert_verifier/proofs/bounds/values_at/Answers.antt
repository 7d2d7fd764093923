use Rattle.std.proofs.Common.{◌≡◌, length, sym, ◌∙◌, rules}
use Rattle.std.proofs.lemmas.Bool.{eqb-true}
use Rattle.std.proofs.lemmas.Int.{to_z-of_z}
use mir.Syntax.{w128}
use mir.Val.{SFits}
use Rattle.link_steps.specs.Values.{IsValueTotal}
use Rattle.cert_verifier.proofs.WithoutCuts.{prices_total}
use Rattle.cert_verifier.proofs.bounds.values_at.Goals as goal

pub returns-then-is_empty : goal.returns-then-is_empty
returns-then-is_empty c =
    let at = c.args.at.now in
    let values = c.value_total.result in
    let fits : SFits w128 values = search rules in
    let empty : length c.as_slice-cuts.result.now ≡ 0 = eqb-true _ _ (sym c.is_empty.ensures ∙ c.if-is_empty.true) in
    let none : length at.cuts.now ≡ 0 = sym c.as_slice-cuts.ensures.len ∙ empty in
    let is : IsValueTotal at.inst.now at.ranges.now c.args.numbers.now (length at.inst.now.links) values = rw c.requires.parts.0 at c.value_total.ensures in
    rw (to_z-of_z w128 values fits) (prices_total at.inst.now at.cuts.now at.ranges.now c.args.numbers.now values none is)

pub rated_total-requires : goal.rated_total-requires
rated_total-requires c = record {
  fit = rw c.requires.parts.0 (record {
    are_ranges = c.requires.parts.1;
    are_cuts = rw c.as_slice-cuts.ensures.value c.requires.parts.2.is_list.are_cuts;
    are_rests = rw c.as_slice-cuts.ensures.value c.requires.parts.2.are_rests;
    are_rated = search rules;
    price_count = search rules;
    rate_count = search rules;
  });
}
