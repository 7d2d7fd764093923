use Rattle.std.proofs.Common.{◌+ℤ◌, rules, arith}
use Rattle.std.proofs.lemmas.Int.{to_z-of_z}
use mir.Syntax.{w128}
use mir.Val.{SFits, to_z}
use Rattle.link_steps.proofs.ValueTotals.{next-fits}
use Rattle.proof_tree.specs.RatedEvidence.{rates_in}
use Rattle.proof_tree.proofs.RatedTotals.{rated_total-none, rated_total-next}
use Rattle.cut_values.proofs.table.CutTable.value_total.Goals as goal

pub loop-place-init : goal.loop-place-init
loop-place-init c = rated_total-none c.args.self.now.problem c.args.self.now.cuts c.args.ranges.now c.args.numbers.now (rates_in c.args.self.now.problem c.args.numbers.now)

pub loop-place-preserved : goal.loop-place-preserved
loop-place-preserved c =
    let value = c.link_value-total.result.value in
    let ensures = c.link_value-total.ensures in
    let before = c.loop-place.invariant in
    let fits : SFits w128 value = search rules in
    let sum_fits = next-fits c.loop-place.place (to_z w128 c.loop-place.total-bits) value
    (omega (arith, c.loop-place-test.true, c.loop-place.auto.place-end, c.links-place-end.ensures.value, c.links-place-end.ensures.lawful.link_count)) before.not_above before.bounded ensures.not_above ensures.bounded in
    let is = rw (c.of_link-ranged.ensures.value, c.instance-inst.ensures.inst) at ensures.value in
    rw (to_z-of_z w128 value fits, to_z-of_z w128 (to_z w128 c.loop-place.total-bits +ℤ value) sum_fits)
    (rated_total-next c.args.self.now.problem c.args.self.now.cuts c.args.ranges.now c.args.numbers.now (rates_in c.args.self.now.problem c.args.numbers.now) c.loop-place.place (to_z w128 c.loop-place.total-bits) value before is ensures.not_above ensures.bounded)
