use Rattle.std.proofs.Common.{◌≡◌, ◌*◌, ap, arith}
use Rattle.demand_worth.specs.Surcharges.{surcharge_at}
use Rattle.demand_worth.specs.Worths.{brought_at}
use Rattle.demand_worth.proofs.Sets.{brought-small, best_of-small}
use Rattle.demand_worth.proofs.worth_row.fill.Goals as goal

pub gain_of-requires : goal.gain_of-requires
gain_of-requires c =
    let small = brought-small c.args.inst.now c.args.here.now c.loop-surcharge.surcharge-index c.loop-surcharge-test.true c.requires.limit in
    let same : (surcharge_at c.args.here.now c.loop-surcharge.surcharge-index).number * c.load_of-load.result ≡ brought_at c.args.inst.now c.args.here.now c.loop-surcharge.surcharge-index
    = ap (λ x. (surcharge_at c.args.here.now c.loop-surcharge.surcharge-index).number * x) c.load_of-load.ensures in
    rw same small

pub put_one-requires-clause-gain : goal.put_one-requires-clause-gain
put_one-requires-clause-gain c = λ cell below.
    let i = c.loop-surcharge.surcharge-index in
    let small = brought-small c.args.inst.now c.args.here.now i c.loop-surcharge-test.true c.requires.limit in
    let same : (surcharge_at c.args.here.now i).number * c.load_of-load.result ≡ brought_at c.args.inst.now c.args.here.now i = ap (λ x. (surcharge_at c.args.here.now i).number * x) c.load_of-load.ensures in
    let before = best_of-small c.args.inst.now c.args.unit c.args.here.now i cell (omega (arith, c.loop-surcharge-test.true)) c.requires.limit in
    omega (arith, small, same, before, c.loop-surcharge.invariant cell below, c.gain_of.ensures, c.loop-surcharge-test.true, c.requires.few)
