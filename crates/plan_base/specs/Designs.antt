-- Designs: what they carry, what they install and what they cost.
use Rattle.std.specs.Prelude.{ℕ, ◌≡◌, ◌<◌, ◌≤◌, ◌+◌, ◌*◌, max, List, [], length, slice_index, slice_index_or, sum, Option, IfSome, ⊤, if◌then◌else◌}
use Rattle.plan_base.specs.declared.ids.ArcId.{ArcId}
use Rattle.plan_base.specs.declared.parts.CountLaw.{CountLaw}
use Rattle.plan_base.specs.declared.parts.CountLaw.TheVariants.{Any, AtMostOne}
use Rattle.plan_base.specs.declared.parts.Module.{Module}
use Rattle.plan_base.specs.declared.parts.Link.{Link}
use Rattle.plan_base.specs.declared.parts.Parts.{Parts}
use Rattle.plan_base.specs.declared.path.Design.{Design}
use Rattle.plan_base.specs.declared.limits.TheConstants.{MAX_COUNT, MAX_COUNT_COST}
use Rattle.plan_base.specs.Sums.{sum_below}
use Rattle.plan_base.specs.Arcs.{link_at, demand_at}
use Rattle.plan_base.specs.Places.{there_of, back_of}
use Rattle.plan_base.specs.Paths.{IsSimplePath, uses_place}

-- the path of the demand of this number
abbrev pub path_at : Design → ℕ → List ArcId
path_at d k = slice_index_or d.paths k []

-- the counts of the link of this number, one for each module
abbrev pub counts_at : Design → ℕ → List ℕ
counts_at d e = slice_index_or d.counts e []

-- the module that is read past the end of a list
abbrev pub no_module : Module
no_module = record { capacity = 0; cost = 0 }

-- the module of this number
abbrev pub module_at : Link → ℕ → Module
module_at l m = slice_index_or l.modules m no_module

-- what a demand puts on a place: its load where its path uses an arc of the place
unfoldable pub load_from : Parts → Design → ℕ → ℕ → ℕ
load_from p d q k = if uses_place p q (path_at d k) then (demand_at p k).load else 0

-- the load of a place
abbrev pub load_at : Parts → Design → ℕ → ℕ
load_at p d q = sum_below (load_from p d q) (length p.demands)

-- the capacity that a link needs: the load of its place, or the larger load of its two places
abbrev pub need : Parts → Design → ℕ → ℕ
need p d e = max (there_of p (load_at p d) e) (back_of p (load_at p d) e)

-- the loads of a link's places added up
abbrev pub carried : Parts → Design → ℕ → ℕ
carried p d e = there_of p (load_at p d) e + back_of p (load_at p d) e

-- the pre-installed capacity and that of the modules that are installed
abbrev pub capacity_with : Link → List ℕ → ℕ
capacity_with l counts = l.pre + sum_below (λ m. slice_index counts m * (module_at l m).capacity) (length l.modules)

-- what these counts of the modules cost, in cost grains
abbrev pub module_cost_with : Link → List ℕ → ℕ
module_cost_with l counts = sum_below (λ m. slice_index counts m * (module_at l m).cost) (length l.modules)

-- what a link costs, in cost grains: its routing cost times the loads of its places, and its modules
abbrev pub link_cost : Parts → Design → ℕ → ℕ
link_cost p d e = (link_at p e).routing * carried p d e + module_cost_with (link_at p e) (counts_at d e)

-- the sum over links of routing costs and of counts times module costs
abbrev pub cost_of : Parts → Design → ℕ
cost_of p d = sum_below (link_cost p d) (length p.links)

-- counts that the law allows: any, or such as add to at most one
abbrev pub AreLawful : CountLaw → List ℕ → Type 0
AreLawful Any counts = ⊤
AreLawful AtMostOne counts = sum counts ≤ 1

-- one simple path for each demand, and for each link one count for each module, which the law allows
pub record IsDesign (p : Parts) (d : Design) : Type 0 where
  pub path_count : length d.paths ≡ length p.demands
  pub list_count : length d.counts ≡ length p.links
  pub paths : (k : ℕ) → k < length p.demands → IsSimplePath p (demand_at p k) (path_at d k)
  pub counts : (e : ℕ) → e < length p.links → length (counts_at d e) ≡ length (link_at p e).modules
  pub lawful : (e : ℕ) → e < length p.links → AreLawful p.law (counts_at d e)

-- no link needs more than its capacity
abbrev pub CarriesLoads : Parts → Design → Type 0
CarriesLoads p d = (e : ℕ) → e < length p.links → need p d e ≤ capacity_with (link_at p e) (counts_at d e)

-- a path of so many arcs is within the limit, if there is one
abbrev pub KeepsLimit : Option ℕ → ℕ → Type 0
KeepsLimit hops arcs = IfSome hops (λ limit. arcs ≤ limit)

-- no path has more arcs than its demand's limit
abbrev pub KeepsLimits : Parts → Design → Type 0
KeepsLimits p d = (k : ℕ) → k < length p.demands → KeepsLimit (demand_at p k).hops (length (path_at d k))

-- its links carry what its paths put on them, and its paths keep the limits of their demands
pub record IsFeasible (p : Parts) (d : Design) : Type 0 where
  pub carried : CarriesLoads p d
  pub limits : KeepsLimits p d

-- the count, and its cost in cost grains, is small enough
pub record IsCountInShape (count cost : ℕ) : Type 0 where
  pub count_within : count ≤ MAX_COUNT
  pub cost_within : count * cost ≤ MAX_COUNT_COST

-- each count of the link is in shape
abbrev pub AreCountsInShape : Link → List ℕ → Type 0
AreCountsInShape l counts = (m : ℕ) → m < length l.modules → IsCountInShape (slice_index counts m) (module_at l m).cost

-- each count, and its cost, is small enough
abbrev pub IsInShape : Parts → Design → Type 0
IsInShape p d = (e : ℕ) → e < length p.links → AreCountsInShape (link_at p e) (counts_at d e)

-- a design in shape whose links carry what its paths put on them
pub record IsCarriedDesign (p : Parts) (d : Design) : Type 0 where
  pub design : IsDesign p d
  pub carried : CarriesLoads p d
  pub in_shape : IsInShape p d

-- a feasible design in shape
pub record IsGoodDesign (p : Parts) (d : Design) : Type 0 where
  pub design : IsDesign p d
  pub feasible : IsFeasible p d
  pub in_shape : IsInShape p d
