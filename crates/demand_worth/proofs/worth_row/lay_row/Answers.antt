use Rattle.std.proofs.Common.{◌≤◌, ℕ, length, arith}
use Rattle.demand_worth.specs.declared.limits.TheConstants.{MAX_MEASURES}
use Rattle.demand_worth.specs.Surcharges.{on_place}
use Rattle.demand_worth.proofs.Sets.{weights-few, on_place-few, AreWorths-made}
use Rattle.demand_worth.proofs.worth_row.lay_row.Goals as goal

pub weight_total-requires-clause-few : goal.weight_total-requires-clause-few
weight_total-requires-clause-few c = λ n within.
    rw (c.requires.unit, c.on_place-here.ensures.value) (weights-few c.args.inst.now c.args.surcharges.now c.args.place n c.on_place-here.ensures.lawful (rw c.on_place-here.ensures.value at within))

few_weights : (total most unit last : ℕ) → total ≤ MAX_MEASURES → last ≤ total → last ≤ MAX_MEASURES
few_weights total most unit last few le = omega arith

pub overflow_add-last : goal.overflow_add-last
overflow_add-last c =
    let few = rw (← c.requires.unit, ← c.on_place-here.ensures.value) at (weights-few c.args.inst.now c.args.surcharges.now c.args.place (length (on_place c.args.surcharges.now c.args.place)) c.on_place-here.ensures.lawful (omega arith)) in
    omega (arith, few, c.weight_total.ensures, c.min-last.ensures)

pub fill-requires-clause-few : goal.fill-requires-clause-few
fill-requires-clause-few c = rw c.on_place-here.ensures.value (on_place-few c.args.surcharges.now c.args.place c.on_place-here.ensures.lawful)

pub fill-requires-clause-count : goal.fill-requires-clause-count
fill-requires-clause-count c =
    let few = rw (← c.requires.unit, ← c.on_place-here.ensures.value) at (weights-few c.args.inst.now c.args.surcharges.now c.args.place (length (on_place c.args.surcharges.now c.args.place)) c.on_place-here.ensures.lawful (omega arith)) in
    omega (arith, few, c.weight_total.ensures, c.min-last.ensures, c.requires.room)

pub returns-clause-within : goal.returns-clause-within
returns-clause-within c =
    let few = rw (← c.requires.unit, ← c.on_place-here.ensures.value) at (weights-few c.args.inst.now c.args.surcharges.now c.args.place (length (on_place c.args.surcharges.now c.args.place)) c.on_place-here.ensures.lawful (omega arith)) in
    omega (arith, few, c.weight_total.ensures, c.min-last.ensures)

pub returns-clause-worths : goal.returns-clause-worths
returns-clause-worths c =
    AreWorths-made c.args.inst.now c.args.surcharges.now c.args.place c.args.most c.args.unit c.min-last.result c.on_place-here.result.now c.fill.new.cells c.requires.unit c.on_place-here.ensures.value
    (let is = c.weight_total.ensures in rw is at c.min-last.ensures) c.fill.ensures
