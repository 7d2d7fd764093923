use Rattle.search_nodes.specs.SearchStates.{machine_state}
use Rattle.plan_of_search.specs.LeafLows.{AreLows}
use Rattle.plan_of_search.proofs.lows.lows_of.Given as goal

-- what is told so far are lower bounds
abbrev pub invariant-loop-number : goal.invariant-loop-number
invariant-loop-number l = AreLows (machine_state l.state) l.lows.items
