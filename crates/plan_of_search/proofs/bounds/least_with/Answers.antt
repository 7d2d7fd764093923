use Rattle.std.proofs.Common.{◌+◌, sym, subst}
use Rattle.search_nodes.specs.SearchStates.{machine_state}
use Rattle.plan_of_search.specs.LeafLows.{IsLesserOver}
use Rattle.plan_of_search.proofs.LowLaws.{over-skipped, over-priced}
use Rattle.plan_of_search.proofs.bounds.least_with.Goals as goal

pub returns-then-is_needless : goal.returns-then-is_needless
returns-then-is_needless c = over-skipped (machine_state c.args.state.now) c.args.number c.args.low c.args.least c.requires.limit c.requires.low (c.is_needless.ensures.0 c.if-is_needless.true)

pub returns : goal.returns
returns c =
    let s = machine_state c.args.state.now in
    subst (IsLesserOver s c.args.number (c.args.number + 1) c.args.least) (sym c.lesser.ensures)
    (over-priced s c.args.number c.args.least c.in_ok-leaf_bound.field-0 c.requires.number c.requires.limit c.in_ok-leaf_bound.ensures)
