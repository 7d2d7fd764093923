use Rattle.std.proofs.Common.{◌≡◌, ◌+◌, ◌∙◌, ℤ, Option, List, length, ap}
use Rattle.search_nodes.specs.SearchStates.{machine_state}
use Rattle.plan_of_search.specs.PlanParts.{IsLeastOrNone}
use Rattle.plan_of_search.specs.LeafLows.{IsLesserOver}
use Rattle.plan_of_search.proofs.LeafBounds.{if_ok-more}
use Rattle.plan_of_search.proofs.LowLaws.{least-all}
use Rattle.plan_of_search.proofs.bounds.least_bound.Goals as goal

pub returns : goal.returns
returns c =
    let s = machine_state c.args.state.now in
    let first = c.lowest_leaf-first.result in
    let count = length c.as_slice-lows.result.now in
    let all : count ≡ length s.nodes = ap (λ (lows : List (Option ℤ)). length lows) c.as_slice-lows.ensures.value ∙ c.in_ok-all.ensures.count in
    if_ok-more (IsLesserOver s (first + 1) count c.in_ok-before.before) (IsLeastOrNone s (length s.nodes)) c.least_over-3.result
    (λ found last. least-all s first count c.least_recorded-recorded.result c.in_ok-of_first.of_first c.in_ok-before.before found all
    c.least_recorded-recorded.ensures c.in_ok-of_first.ensures c.in_ok-before.ensures last)
    c.least_over-3.ensures
