use Rattle.arc_restrict.specs.Rows.{forbids}
use Rattle.plan_of_search.proofs.LeafBounds.{ArePricedBefore}
use Rattle.plan_of_search.proofs.bounds.bound_at.Given as goal

-- the demands before this one have their least prices
abbrev pub invariant-loop-number : goal.invariant-loop-number
invariant-loop-number l = ArePricedBefore l.inst (forbids l.restriction) l.prices l.round l.number
