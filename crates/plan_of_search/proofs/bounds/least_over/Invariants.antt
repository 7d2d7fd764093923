use Rattle.search_nodes.specs.SearchStates.{machine_state}
use Rattle.plan_of_search.specs.LeafLows.{IsLesserOver}
use Rattle.plan_of_search.proofs.bounds.least_over.Given as goal

-- the leaves before this number are looked at
abbrev pub invariant-loop-number : goal.invariant-loop-number
invariant-loop-number l = IsLesserOver (machine_state l.state) l.from l.number l.fn.so_far l.least
