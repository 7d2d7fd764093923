-- The instance that a network file and a model file stand for. Numbers of the file are in millionths.
use Rattle.std.specs.Prelude.{ℕ, ◌≡◌, ◌*◌, ◌^◌, length, map, Option, None}
use Rattle.plan_base.specs.declared.parts.Orient.{Orient}
use Rattle.plan_base.specs.declared.parts.Orient.TheVariants.{Directed, Undirected, Bidirected}
use Rattle.plan_base.specs.declared.parts.CountLaw.{CountLaw}
use Rattle.plan_base.specs.declared.parts.CountLaw.TheVariants.{Any, AtMostOne}
use Rattle.plan_base.specs.declared.parts.Module.{Module}
use Rattle.plan_base.specs.declared.parts.Link.{Link}
use Rattle.plan_base.specs.declared.parts.Demand.{Demand}
use Rattle.plan_base.specs.declared.parts.Parts.{Parts}
use Rattle.snd_network.specs.declared.file.LinkRecord.{LinkRecord}
use Rattle.snd_network.specs.declared.file.DemandRecord.{DemandRecord}
use Rattle.snd_network.specs.declared.file.NetworkFile.{NetworkFile}
use Rattle.snd_model.specs.declared.values.LinkModel.{LinkModel}
use Rattle.snd_model.specs.declared.values.LinkModel.TheVariants as links
use Rattle.snd_model.specs.declared.values.CapacityModel.{CapacityModel}
use Rattle.snd_model.specs.declared.values.CapacityModel.TheVariants as capacities
use Rattle.snd_model.specs.declared.values.HopModel.{HopModel}
use Rattle.snd_model.specs.declared.values.HopModel.TheVariants as hop_models
use Rattle.snd_model.specs.declared.file.ModelFile.{ModelFile}
use Rattle.model_check.specs.Profile.{IsSupported}

-- directed links are used from source to target alone, others both ways; of bidirected ones each way has a capacity of its own
abbrev pub orient_of : LinkModel → Orient
orient_of links.Undirected = Undirected
orient_of links.Directed = Directed
orient_of links.Bidirected = Bidirected

-- of explicit capacities at most one is installed on a link, of others any number of each
abbrev pub law_of : CapacityModel → CountLaw
law_of capacities.Modular = Any
law_of capacities.Linear = Any
law_of capacities.SingleModular = Any
law_of capacities.Explicit = AtMostOne

-- the most arcs of a demand's path: what is read, where hop limits are asked for
abbrev pub limit_of : HopModel → Option ℕ → Option ℕ
limit_of hop_models.No read = None
limit_of hop_models.Yes read = read

-- a module: a millionth of a unit of capacity is a load grain, a millionth of a unit of cost 10^6 cost grains
abbrev pub module_of : ℕ × ℕ → Module
module_of m = record { capacity = m.0; cost = m.1 * 10 ^ 6 }

-- a link: a millionth of a unit of cost for a unit of load is a cost grain for a load grain
abbrev pub link_of_record : LinkRecord → Link
link_of_record l = record { source = l.source; target = l.target; pre = l.pre; routing = l.routing; modules = map module_of l.modules }

-- a demand: its load in load grains is the routing unit times the value
abbrev pub demand_of : HopModel → DemandRecord → Demand
demand_of hop d = record { source = d.source; target = d.target; load = d.unit * d.value; hops = limit_of hop d.hops }

-- the model is planned, and the parts are the nodes, links and demands of the network, in the order of the file
pub record ReadsAs (net : NetworkFile) (model : ModelFile) (parts : Parts) : Type 0 where
  pub supported : IsSupported model
  pub orient : parts.orient ≡ orient_of model.link
  pub law : parts.law ≡ law_of model.capacity
  pub nodes : parts.nodes ≡ length net.nodes
  pub links : parts.links ≡ map link_of_record net.links
  pub demands : parts.demands ≡ map (demand_of model.hop) net.demands
