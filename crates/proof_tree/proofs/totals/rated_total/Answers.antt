use Rattle.std.proofs.Common.{◌+ℤ◌, rules, arith}
use Rattle.std.proofs.lemmas.Int.{to_z-of_z}
use mir.Syntax.{w128}
use mir.Val.{SFits, to_z}
use Rattle.link_steps.proofs.ValueTotals.{next-fits}
use Rattle.proof_tree.proofs.RatedTotals.{rated_total-none, rated_total-next}
use Rattle.proof_tree.proofs.totals.rated_total.Goals as goal

pub loop-place-init : goal.loop-place-init
loop-place-init c =
    let n = c.args.numbers.now in
    rated_total-none n.table.now n.cuts.now n.ranges.now n.prices.now n.rates.now

pub loop-place-preserved : goal.loop-place-preserved
loop-place-preserved c =
    let n = c.args.numbers.now in
    let value = c.in_ok-value.value in
    let ensures = c.in_ok-value.ensures in
    let before = c.loop-place.invariant in
    let fits : SFits w128 value = search rules in
    let sum_fits = next-fits c.loop-place.place (to_z w128 c.loop-place.total-bits) value
    (omega (arith, c.loop-place-test.true, c.loop-place.auto.place-end, c.links-place-end.ensures.value, c.links-place-end.ensures.lawful.link_count)) before.not_above before.bounded ensures.not_above ensures.bounded in
    rw (to_z-of_z w128 value fits, to_z-of_z w128 (to_z w128 c.loop-place.total-bits +ℤ value) sum_fits)
    (rated_total-next n.table.now n.cuts.now n.ranges.now n.prices.now n.rates.now c.loop-place.place (to_z w128 c.loop-place.total-bits) value before ensures.value ensures.not_above ensures.bounded)
