use Rattle.std.proofs.Common.{◌*◌, arith}
use Rattle.plan_base.specs.Arcs.{link_at}
use Rattle.link_steps.specs.Candidates.{IsBestLoad}
use Rattle.link_steps.specs.Tallies.{worth}
use Rattle.link_steps.proofs.Prices.{back-top}
use Rattle.link_steps.proofs.RatedPrices.{IsRatedPlace-range}
use Rattle.link_steps.proofs.FirstLeast.{AreFoundTo-searches, IsFirstLeast-found}
use Rattle.link_steps.proofs.table.StepTable.ranged_rated_value.Goals as goal

pub first_rated-requires : goal.first_rated-requires
first_rated-requires c =
    let p = c.args.self.now in
    let e = c.args.link.0 in
    let there = worth c.args.price c.args.there.now in
    let back = worth c.args.back_price c.args.back.now in
    let load = c.best_load-load.result in
    let back_load = c.best_load-back_load.result in
    let load_best : IsBestLoad (1000 * (link_at p e).routing) there c.args.ranges.there c.args.ranges.there.most load = rw (c.link-link.ensures.value, c.self.view_is) at c.best_load-load.ensures in
    let back_best : IsBestLoad (1000 * (link_at p e).routing) back c.args.ranges.back c.args.ranges.back.most back_load = rw (c.link-link.ensures.value, c.self.view_is) at c.best_load-back_load.ensures in
    let found = AreFoundTo-searches p e c.args.ranges there back c.args.steps.now load back_load c.requires.steps c.requires.ranges load_best back_best c.first_reaching-from.result c.first_reaching-last.result
    (rw c.max.ensures at c.first_reaching-from.ensures.before) (rw c.max.ensures at c.first_reaching-from.ensures.here)
    (rw c.max-2.ensures at c.first_reaching-last.ensures.before) (rw c.max-2.ensures at c.first_reaching-last.ensures.here) in
    let lawful = rw c.self.view_is at c.lawful.ensures in
    record {
      some = omega (arith, found.in_order);
      within = omega (arith, found.final.within);
      reached = found.reached;
      there = rw (c.link-link.ensures.value, c.self.view_is) (IsRatedPlace-range p e c.args.price c.args.there.now c.args.ranges.there lawful c.requires.link c.requires.there c.requires.ranges.there.some c.requires.ranges.there.carried);
      back = rw (c.link-link.ensures.value, c.self.view_is) (IsRatedPlace-range p e c.args.back_price c.args.back.now c.args.ranges.back lawful c.requires.link c.requires.back c.requires.ranges.other.some (omega (arith, c.requires.ranges.other.carried, back-top p e)));
      cheap = λ i within. omega (arith, c.requires.steps.are_steps.in_order.cheap i within, c.requires.steps.within, within);
    }

pub returns : goal.returns
returns c =
    let p = c.args.self.now in
    let e = c.args.link.0 in
    let there = worth c.args.price c.args.there.now in
    let back = worth c.args.back_price c.args.back.now in
    let load = c.best_load-load.result in
    let back_load = c.best_load-back_load.result in
    let load_best : IsBestLoad (1000 * (link_at p e).routing) there c.args.ranges.there c.args.ranges.there.most load = rw (c.link-link.ensures.value, c.self.view_is) at c.best_load-load.ensures in
    let back_best : IsBestLoad (1000 * (link_at p e).routing) back c.args.ranges.back c.args.ranges.back.most back_load = rw (c.link-link.ensures.value, c.self.view_is) at c.best_load-back_load.ensures in
    let found = AreFoundTo-searches p e c.args.ranges there back c.args.steps.now load back_load c.requires.steps c.requires.ranges load_best back_best c.first_reaching-from.result c.first_reaching-last.result
    (rw c.max.ensures at c.first_reaching-from.ensures.before) (rw c.max.ensures at c.first_reaching-from.ensures.here)
    (rw c.max-2.ensures at c.first_reaching-last.ensures.before) (rw c.max-2.ensures at c.first_reaching-last.ensures.here) in
    let best = IsFirstLeast-found p e c.args.ranges there back c.args.steps.now load back_load c.requires.steps c.requires.ranges load_best back_best c.first_reaching-from.result c.first_reaching-last.result c.first_rated.result found
    (rw (c.link-link.ensures.value, c.self.view_is) at c.first_rated.ensures) in
    record { value = best.value; loads = best.loads }
