-- Worked rows: demands of given loads, and what they bring.
use Rattle.std.specs.Prelude.{ℕ, List, [], ◌∷◌, map}
use Rattle.plan_base.specs.declared.parts.Orient.TheVariants.{Undirected}
use Rattle.plan_base.specs.declared.parts.CountLaw.TheVariants.{Any}
use Rattle.plan_base.specs.declared.parts.Demand.{Demand}
use Rattle.plan_base.specs.declared.parts.Parts.{Parts}
use Rattle.std.specs.Prelude.{None}
use Rattle.demand_worth.specs.declared.surcharges.Surcharge.{Surcharge}

-- a demand from node 0 to node 1
abbrev pub demand_of : ℕ → Demand
demand_of load = record { source = record { 0 = 0 }; target = record { 0 = 1 }; load = load; hops = None }

-- two nodes with demands of these loads, in load grains, and no link
abbrev pub loaded : List ℕ → Parts
loaded loads = record { orient = Undirected; law = Any; nodes = 2; links = []; demands = map demand_of loads }

-- demands of 6, 5 and 4 grains
abbrev pub three_demands : Parts
three_demands = loaded (6 ∷ 5 ∷ 4 ∷ [])

-- the surcharge of a demand on place 0
abbrev pub on_first : ℕ → ℕ → Surcharge
on_first k number = record { place = 0; demand = record { 0 = k }; number = number }

-- surcharges of 2, 2 and 3 of these demands
abbrev pub three_surcharges : List Surcharge
three_surcharges = on_first 0 2 ∷ on_first 1 2 ∷ on_first 2 3 ∷ []
