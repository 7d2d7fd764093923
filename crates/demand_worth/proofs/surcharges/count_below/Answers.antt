use Rattle.std.proofs.Common.{◌+◌, ◌-◌, ◌/◌, ◌<◌, ◌≤◌, arith}
use Rattle.demand_worth.specs.Surcharges.{surcharge_at}
use Rattle.demand_worth.proofs.Orders.{places-below, places-from}
use Rattle.demand_worth.proofs.surcharges.count_below.Goals as goal

pub loop-low-preserved-then-from-limit : goal.loop-low-preserved-then-from-limit
loop-low-preserved-then-from-limit c =
    let middle = c.loop-low.low + (c.loop-low.high - c.loop-low.low) / 2 in
    let below : (surcharge_at c.args.list.now middle).place < c.args.limit = omega (arith, c.if-from-limit.true, c.from.ensures) in
    record {
      order = omega (arith, c.loop-low-test.true);
      within = c.loop-low.invariant.within;
      below = λ i less. places-below c.args.list.now middle c.args.limit i c.requires (omega (arith, c.loop-low-test.true, c.loop-low.invariant.within)) below less;
      others = c.loop-low.invariant.others;
    }

pub loop-low-preserved : goal.loop-low-preserved
loop-low-preserved c =
    let middle = c.loop-low.low + (c.loop-low.high - c.loop-low.low) / 2 in
    let from : c.args.limit ≤ (surcharge_at c.args.list.now middle).place = omega (arith, c.if-from-limit.false, c.from.ensures) in
    record {
      order = omega arith;
      within = omega (arith, c.loop-low-test.true, c.loop-low.invariant.within);
      below = c.loop-low.invariant.below;
      others = λ i after inside. places-from c.args.list.now middle c.args.limit i c.requires from after inside;
    }
