-- What a trial plans: the network of a number, under one model.
use Rattle.std.specs.Prelude.{ℕ, map}
use Rattle.plan_base.specs.declared.parts.Orient.TheVariants.{Undirected}
use Rattle.plan_base.specs.declared.parts.CountLaw.TheVariants.{Any}
use Rattle.plan_base.specs.declared.parts.Parts.{Parts}
use Rattle.snd_model.specs.declared.values.DemandModel.TheVariants as demand_models
use Rattle.snd_model.specs.declared.values.LinkModel.TheVariants as link_models
use Rattle.snd_model.specs.declared.values.CapacityModel.TheVariants as capacities
use Rattle.snd_model.specs.declared.values.FixedChargeModel.TheVariants as charges
use Rattle.snd_model.specs.declared.values.RoutingModel.TheVariants as routings
use Rattle.snd_model.specs.declared.values.PathModel.TheVariants as paths
use Rattle.snd_model.specs.declared.values.HopModel.TheVariants as hops
use Rattle.snd_model.specs.declared.values.SurvivabilityModel.TheVariants as survivals
use Rattle.snd_model.specs.declared.file.ModelFile.{ModelFile}
use Rattle.model_check.specs.Reading.{link_of_record, demand_of}
use Rattle.instance_maker.specs.Samples.{sample_links, sample_network}

-- the model of each trial: undirected demands and links, modules, single paths, and nothing else
abbrev pub trial_model : ModelFile
trial_model = record {
  demand = demand_models.Undirected;
  link = link_models.Undirected;
  capacity = capacities.Modular;
  fixed_charge = charges.No;
  routing = routings.SinglePath;
  path = paths.All;
  hop = hops.No;
  survivability = survivals.No;
}

-- the parts that the network of a number stands for under that model, in grains
abbrev pub sample_parts : ℕ → ℕ → ℕ → Parts
sample_parts number nodes demands = record {
  orient = Undirected;
  law = Any;
  nodes = nodes;
  links = map link_of_record (sample_links number nodes);
  demands = map (demand_of hops.No) (sample_network number nodes demands).demands;
}
