use Rattle.std.proofs.Common.{arith}
use Rattle.proof_tree.proofs.PlaceRates.{rate_total-next, limit-small}
use Rattle.proof_tree.proofs.rates.crossing_rates.Goals as goal

pub loop-number-preserved : goal.loop-number-preserved
loop-number-preserved c =
    let next = rate_total-next c.args.inst.now c.args.cuts.now c.args.rates.now c.args.place c.loop-number.number in
    (omega (arith, c.loop-number.invariant.0, c.crossing_rate-total.ensures.value, next), omega (arith, c.loop-number.invariant.1, c.crossing_rate-total.ensures.within, limit-small c.args.inst.now))
