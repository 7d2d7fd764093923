-- Which values of a model are planned.
use Rattle.std.specs.Prelude.{◌≡◌, Bool, true, false}
use Rattle.snd_model.specs.declared.keys.Key.{Key}
use Rattle.snd_model.specs.declared.setting.Setting.{Setting}
use Rattle.snd_model.specs.declared.setting.Setting.TheVariants.{Demand, Link, Capacity, FixedCharge, Routing, Path, Hop, Survivability}
use Rattle.snd_model.specs.declared.values.DemandModel.TheVariants as demands
use Rattle.snd_model.specs.declared.values.LinkModel.TheVariants as links
use Rattle.snd_model.specs.declared.values.CapacityModel.TheVariants as capacities
use Rattle.snd_model.specs.declared.values.FixedChargeModel.TheVariants as charges
use Rattle.snd_model.specs.declared.values.RoutingModel.TheVariants as routings
use Rattle.snd_model.specs.declared.values.PathModel.TheVariants as paths
use Rattle.snd_model.specs.declared.values.HopModel.TheVariants as hops
use Rattle.snd_model.specs.declared.values.SurvivabilityModel.TheVariants as survivals
use Rattle.snd_model.specs.declared.file.ModelFile.{ModelFile}
use Rattle.snd_model.specs.Grammar.{setting_of}

-- the value of the key is in the profile; each value stands here
abbrev pub is_planned : Setting → Bool
is_planned (Demand demands.Undirected) = true
is_planned (Demand demands.Directed) = true
is_planned (Link links.Undirected) = true
is_planned (Link links.Directed) = true
is_planned (Link links.Bidirected) = true
is_planned (Capacity capacities.Modular) = true
is_planned (Capacity capacities.Linear) = false
is_planned (Capacity capacities.SingleModular) = false
is_planned (Capacity capacities.Explicit) = true
is_planned (FixedCharge charges.No) = true
is_planned (FixedCharge charges.Yes) = false
is_planned (Routing routings.SinglePath) = true
is_planned (Routing routings.Continuous) = false
is_planned (Routing routings.Integer) = false
is_planned (Path paths.All) = true
is_planned (Path paths.Explicit) = false
is_planned (Hop hops.No) = true
is_planned (Hop hops.Yes) = true
is_planned (Survivability survivals.No) = true
is_planned (Survivability survivals.Yes) = false
is_planned (Survivability survivals.OnePlusOne) = false
is_planned (Survivability survivals.SharedPath) = false
is_planned (Survivability survivals.Unrestricted) = false

-- the value that the model has for each key is in the profile
abbrev pub AreAllPlanned : ModelFile → Type 0
AreAllPlanned m = (key : Key) → is_planned (setting_of m key) ≡ true

-- every value is in the profile, and undirected demands are asked for on undirected links alone
pub record IsSupported (m : ModelFile) : Type 0 where
  pub values : AreAllPlanned m
  pub pair : m.demand ≡ demands.Undirected → m.link ≡ links.Undirected
