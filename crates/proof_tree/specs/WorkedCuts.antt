-- Worked cuts: of the triangle, of one or two links between nodes a and b, and of a ring of four nodes.
use Rattle.std.specs.Prelude.{ℕ, Bool, true, false, [], ◌∷◌, List, None}
use Rattle.plan_base.specs.declared.parts.Orient.{Orient}
use Rattle.plan_base.specs.declared.parts.Orient.TheVariants.{Undirected}
use Rattle.plan_base.specs.declared.parts.CountLaw.TheVariants.{Any}
use Rattle.plan_base.specs.declared.parts.Link.{Link}
use Rattle.plan_base.specs.declared.parts.Demand.{Demand}
use Rattle.plan_base.specs.declared.parts.Parts.{Parts}
use Rattle.plan_base.specs.declared.path.Design.{Design}
use Rattle.proof_tree.specs.declared.cuts.Cut.{Cut}
use Rattle.proof_tree.specs.declared.plan.Plan.{Plan}
use Rattle.proof_tree.specs.declared.tree.Evidence.TheVariants.{Bound}
use Rattle.proof_tree.specs.declared.tree.TreeNode.TheVariants.{Leaf}
use Rattle.proof_tree.specs.OneLink.{unit_plan}
use Rattle.proof_tree.specs.Triangle.{node, arc, link, triangle}

-- the triangle with links of this orientation
abbrev pub oriented : Orient → Parts
oriented orient = record triangle { orient = orient }

-- the set of b alone in the triangle
abbrev pub only_b : List Bool
only_b = false ∷ true ∷ false ∷ []

-- the set of c alone in the triangle
abbrev pub only_c : List Bool
only_c = false ∷ false ∷ true ∷ []

-- a link from a to b with this capacity and routing cost, and no module
abbrev pub installed : ℕ → ℕ → Link
installed pre routing = record { source = node 0; target = node 1; pre = pre; routing = routing; modules = [] }

-- 10 from a to b
abbrev pub from_a : Demand
from_a = record { source = node 0; target = node 1; load = 10_000_000; hops = None }

-- links of capacity 10 at a routing cost of 1 and of capacity 100 at one of 3, and two demands of 10
abbrev pub parallel : Parts
parallel = record { orient = Undirected; law = Any; nodes = 2; links = installed 10_000_000 1_000_000 ∷ installed 100_000_000 3_000_000 ∷ []; demands = from_a ∷ from_a ∷ [] }

-- a demand on each link
abbrev pub one_each : Design
one_each = record { paths = (arc 0 ∷ []) ∷ (arc 2 ∷ []) ∷ []; counts = [] ∷ [] ∷ [] }

-- the set of a, of whose crossing loads the first 3 of each 10 are counted
abbrev pub around_a : Bool → Cut
around_a counts_installed = record { nodes = true ∷ false ∷ []; period = 10_000_000; first = 3_000_000; counts_installed = counts_installed }

-- the set of a in the instance with one link, of whose crossing loads the first 2 of each 10 are counted
abbrev pub cut_of_a : Cut
cut_of_a = record { nodes = true ∷ false ∷ []; period = 10_000_000; first = 2_000_000; counts_installed = true }

-- a price of 0 for the link and a rate of 2.5 for the cut, so that a load is worth at most its modules
abbrev pub cut_numbers : List ℕ
cut_numbers = 0 ∷ 2_500_000_000 ∷ []

-- one leaf: of a load of 12 there are 4 counted, so that the bound is 10, the cost of the design
abbrev pub cut_plan : Plan
cut_plan = record unit_plan { cuts = cut_of_a ∷ []; tree = Leaf (Bound cut_numbers) ∷ [] }

-- the same leaf without the cut
abbrev pub without_cut : Plan
without_cut = record cut_plan { cuts = [] }

-- 1 from a node to another
abbrev pub one : ℕ → ℕ → Demand
one source target = record { source = node source; target = node target; load = 1_000_000; hops = None }

-- four nodes in a ring, a module of capacity 10 and cost 5 on each link, and a demand of 1 between each two neighbours
abbrev pub ring : Parts
ring = record {
  orient = Undirected;
  law = Any;
  nodes = 4;
  links = link 0 1 5_000_000_000_000 ∷ link 1 2 5_000_000_000_000 ∷ link 2 3 5_000_000_000_000 ∷ link 3 0 5_000_000_000_000 ∷ [];
  demands = one 0 1 ∷ one 1 2 ∷ one 2 3 ∷ one 3 0 ∷ [];
}

-- the set, of whose crossing loads the first 2 of each 10 are counted
abbrev pub two_of_ten : List Bool → Cut
two_of_ten nodes = record { nodes = nodes; period = 10_000_000; first = 2_000_000; counts_installed = true }

-- the cuts of the single nodes
abbrev pub ring_cuts : List Cut
ring_cuts =
    two_of_ten (true ∷ false ∷ false ∷ false ∷ [])
    ∷ two_of_ten (false ∷ true ∷ false ∷ false ∷ [])
    ∷ two_of_ten (false ∷ false ∷ true ∷ false ∷ [])
    ∷ two_of_ten (false ∷ false ∷ false ∷ true ∷ [])
    ∷ []

-- a price of 0 for each link
abbrev pub ring_prices : List ℕ
ring_prices = 0 ∷ 0 ∷ 0 ∷ 0 ∷ []

-- a rate of 1.25 for each cut, so that a link that two cuts count fully is worth its module
abbrev pub ring_rates : List ℕ
ring_rates = 1_250_000_000 ∷ 1_250_000_000 ∷ 1_250_000_000 ∷ 1_250_000_000 ∷ []
