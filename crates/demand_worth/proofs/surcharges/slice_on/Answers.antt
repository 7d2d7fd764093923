use Rattle.std.proofs.Common.{rules}
use Rattle.demand_worth.proofs.Orders.{on_place-between}
use Rattle.demand_worth.proofs.surcharges.slice_on.Goals as goal

pub returns : goal.returns
returns c =
    let first = c.count_below-first in
    let end = c.count_below-end in
    on_place-between c.args.list.now c.args.place _ _ first.result end.result (search rules) (search rules)
    first.ensures.within end.ensures.within first.ensures.below first.ensures.others end.ensures.below end.ensures.others
