use Rattle.std.proofs.Common.{◌≡◌, ◌/◌, suc, ap, arith}
use Rattle.demand_worth.specs.Worths.{weight_at}
use Rattle.demand_worth.proofs.worth_row.weight_total.Goals as goal

pub overflow_add-total : goal.overflow_add-total
overflow_add-total c =
    let next = c.requires.few (suc c.loop-surcharge.surcharge-index) (omega (arith, c.loop-surcharge-test.true)) in
    let term : c.load_of.result / c.args.unit ≡ weight_at c.args.inst.now c.args.unit c.args.here.now c.loop-surcharge.surcharge-index = ap (λ x. x / c.args.unit) c.load_of.ensures in
    omega (arith, next, term, c.loop-surcharge.invariant)
