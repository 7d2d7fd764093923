use Rattle.std.proofs.Common.{◌<◌, ◌≤◌, length, rules, sym, subst}
use Rattle.arc_restrict.specs.Rows.{forbids}
use Rattle.proof_tree.specs.Regions.{Region}
use Rattle.cut_values.specs.Numbers.{AreNumbers}
use Rattle.plan_of_search.specs.PlanParts.{region_in, IsPriceOrNone}
use Rattle.plan_of_search.proofs.LeafBounds.{numbers-prices, priced-next, priced-short, priced-bound, unpriced-bound}
use Rattle.plan_of_search.proofs.bounds.bound_at.Goals as goal

pub returns-in_default : goal.returns-in_default
returns-in_default c =
    let within : c.loop-number.number < length c.args.inst.now.demands = search rules in
    let g : Region = region_in (record { rows = c.args.restriction.now; ranges = c.args.ranges.now }) in
    unpriced-bound c.args.inst.now c.args.table.now.cuts g c.args.prices.now c.loop-number.number within
    (subst (IsPriceOrNone c.args.inst.now (forbids c.args.restriction.now) c.args.prices.now c.loop-number.number) c.in_default.is c.in_ok-length.ensures)

pub least_price-requires-clause-prices : goal.least_price-requires-clause-prices
least_price-requires-clause-prices c = numbers-prices c.args.inst.now c.args.table.now.cuts c.args.prices.now c.requires.numbers

pub loop-number-preserved : goal.loop-number-preserved
loop-number-preserved c =
    let within : c.loop-number.number < length c.args.inst.now.demands = search rules in
    priced-next c.args.inst.now (forbids c.args.restriction.now) c.args.prices.now c.loop-number.round c.loop-number.number c.in-Some.length within c.loop-number.invariant
    (subst (IsPriceOrNone c.args.inst.now (forbids c.args.restriction.now) c.args.prices.now c.loop-number.number) c.in-Some.is c.in_ok-length.ensures)
    c.put.result c.put.new.self c.put.ensures.known c.put.ensures.put

pub bound-requires-clause-numbers : goal.bound-requires-clause-numbers
bound-requires-clause-numbers c = subst (AreNumbers c.args.inst.now c.args.table.now.cuts) (sym c.loop-number.invariant.prices_are) c.requires.numbers

pub bound-requires-clause-short : goal.bound-requires-clause-short
bound-requires-clause-short c =
    priced-short c.args.inst.now (forbids c.args.restriction.now) c.args.prices.now c.loop-number.round c.loop-number.number c.demands-demands.ensures.lawful
    c.requires.numbers.lawful.prices_within c.loop-number.invariant

pub returns : goal.returns
returns c =
    let all : length c.args.inst.now.demands ≤ c.loop-number.number = search rules in
    let g : Region = region_in (record { rows = c.args.restriction.now; ranges = c.args.ranges.now }) in
    priced-bound c.args.inst.now c.args.table.now.cuts g c.args.prices.now c.loop-number.round c.loop-number.number c.bound.result all c.loop-number.invariant
    c.bound.ensures.none c.bound.ensures.bound
