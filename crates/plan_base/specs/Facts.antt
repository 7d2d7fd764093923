-- What an instance is: an orientation, a count of nodes, links and demands, each within its limits.
use Rattle.std.specs.Prelude.{ℕ, ◌<◌, ◌≤◌, ◌≢◌, ◌*◌, ◌/◌, ◌^◌, max, min, Bool, List, length, sum_by, fold, ◌+◌, All, if◌then◌else◌, nat_lt}
use Rattle.std.specs.List.{list_any}
use Rattle.plan_base.specs.declared.parts.CountLaw.{CountLaw}
use Rattle.plan_base.specs.declared.parts.CountLaw.TheVariants.{Any, AtMostOne}
use Rattle.plan_base.specs.declared.parts.Module.{Module}
use Rattle.plan_base.specs.declared.parts.Link.{Link}
use Rattle.plan_base.specs.declared.parts.Demand.{Demand}
use Rattle.plan_base.specs.declared.parts.Parts.{Parts}
use Rattle.plan_base.specs.declared.limits.TheConstants.{MAX_NODES, MAX_LINKS, MAX_DEMANDS, MAX_MODULES, MAX_TOTAL_LOAD, MAX_ROUTING_COST, CAPACITY_BOUND, MODULE_COST_BOUND}

-- the sum of all loads
abbrev pub total_load : Parts → ℕ
total_load p = sum_by (λ k. k.load) p.demands

-- a link is useful where a module has positive capacity
abbrev pub is_useful : Link → Bool
is_useful l = list_any (λ m. nat_lt 0 m.capacity) l.modules

-- the greatest capacity of some modules, 0 where there is none
abbrev pub greatest_capacity : List Module → ℕ
greatest_capacity modules = fold (λ most m. max most m.capacity) 0 modules

-- the most load that counts of a useful link may carry, where the total load is not less: any load, or what one module carries
abbrev pub useful_load : CountLaw → Link → ℕ → ℕ
useful_load Any l total = total
useful_load AtMostOne l total = min total (l.pre + greatest_capacity l.modules)

-- the most load that a link may ever carry
abbrev pub top_load : Parts → Link → ℕ
top_load p l = if is_useful l then useful_load p.law l (total_load p) else min (total_load p) l.pre

-- the greatest price
abbrev pub price_limit : Parts → ℕ
price_limit p = 4 * 10 ^ 33 / max (total_load p) 1

-- capacity in load grains and cost in cost grains, each below its bound
pub record IsModule (m : Module) : Type 0 where
  pub capacity : m.capacity < CAPACITY_BOUND
  pub cost : m.cost < MODULE_COST_BOUND

-- a link between two different nodes, with numbers in range
pub record IsLink (nodes : ℕ) (l : Link) : Type 0 where
  pub module_count : length l.modules ≤ MAX_MODULES
  pub pre : l.pre < CAPACITY_BOUND
  pub routing : l.routing < CAPACITY_BOUND
  pub modules : All IsModule l.modules
  pub source : l.source.0 < nodes
  pub target : l.target.0 < nodes
  pub different : l.source.0 ≢ l.target.0

-- a demand between two different nodes
pub record IsDemand (nodes : ℕ) (k : Demand) : Type 0 where
  pub source : k.source.0 < nodes
  pub target : k.target.0 < nodes
  pub different : k.source.0 ≢ k.target.0

-- parts within all limits
pub record IsInstance (p : Parts) : Type 0 where
  pub nodes : p.nodes ≤ MAX_NODES
  pub link_count : length p.links ≤ MAX_LINKS
  pub demand_count : length p.demands ≤ MAX_DEMANDS
  pub links : All (IsLink p.nodes) p.links
  pub demands : All (IsDemand p.nodes) p.demands
  pub total : total_load p ≤ MAX_TOTAL_LOAD
  pub routing : All (λ l. l.routing * total_load p ≤ MAX_ROUTING_COST) p.links
