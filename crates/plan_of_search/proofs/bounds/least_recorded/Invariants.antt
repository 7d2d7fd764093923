use Rattle.search_nodes.specs.SearchStates.{machine_state}
use Rattle.plan_of_search.specs.LeafLows.{IsBegun}
use Rattle.plan_of_search.proofs.bounds.least_recorded.Given as goal

-- the least one so far is a limit, and at most the cost of the best design
abbrev pub invariant-loop-number : goal.invariant-loop-number
invariant-loop-number l = IsBegun (machine_state l.state) l.least
