-- A worked instance: nodes a and b, a link between them with a module of capacity 10 and cost 5, and two demands of 6 from
-- a to b; and plans for it.
use Rattle.std.specs.Prelude.{ℕ, [], ◌∷◌, None}
use Rattle.plan_base.specs.declared.parts.Orient.TheVariants.{Undirected}
use Rattle.plan_base.specs.declared.parts.CountLaw.TheVariants.{Any}
use Rattle.plan_base.specs.declared.parts.Demand.{Demand}
use Rattle.plan_base.specs.declared.parts.Parts.{Parts}
use Rattle.plan_base.specs.declared.path.Design.{Design}
use Rattle.proof_tree.specs.declared.tree.Evidence.TheVariants.{Bound, Overfull, Crowd}
use Rattle.proof_tree.specs.declared.tree.TreeNode.TheVariants.{Loads, Leaf}
use Rattle.proof_tree.specs.declared.plan.Plan.{Plan}
use Rattle.proof_tree.specs.WorkedPlans.{optimal_plan}
use Rattle.proof_tree.specs.Triangle.{node, arc, link}

-- 6 from a to b
abbrev pub six : Demand
six = record { source = node 0; target = node 1; load = 6_000_000; hops = None }

-- the instance
abbrev pub one_link : Parts
one_link = record { orient = Undirected; law = Any; nodes = 2; links = link 0 1 5_000_000_000_000 ∷ []; demands = six ∷ six ∷ [] }

-- both demands over the link, with two modules
abbrev pub two_modules : Design
two_modules = record { paths = (arc 0 ∷ []) ∷ (arc 0 ∷ []) ∷ []; counts = (2 ∷ []) ∷ [] }

-- one leaf: at the start price of the link the bound is 6, which is above the cost of 10 less the unit of 5
abbrev pub unit_plan : Plan
unit_plan = optimal_plan one_link 10_000_000_000_000 two_modules 1 (Leaf (Bound (500_000_000 ∷ [])) ∷ [])

-- the loads of the link are split at this one, and those up to it at 5: up to 5 the load of the only paths is outside the
-- range, from there up to 10 the demands ask for too much, and above 10 the bound is 10 at a price of 0
abbrev pub loads_plan : ℕ → Plan
loads_plan load = optimal_plan one_link 10_000_000_000_000 two_modules 5
    (Loads 0 load ∷ Loads 0 5_000_000 ∷ Leaf (Overfull (record { 0 = 0 })) ∷ Leaf (Crowd (1 ∷ [])) ∷ Leaf (Bound (0 ∷ [])) ∷ [])
