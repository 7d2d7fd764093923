-- The words of the model table are found again.
use Rattle.std.proofs.Common.{◌≡◌, refl, Some}
use Rattle.snd_model.specs.declared.keys.Key.{Key}
use Rattle.snd_model.specs.declared.keys.Key.TheVariants as keys
use Rattle.snd_model.specs.declared.setting.Setting.{Setting}
use Rattle.snd_model.specs.declared.setting.Setting.TheVariants.{Demand, Link, Capacity, FixedCharge, Routing, Path, Hop, Survivability}
use Rattle.snd_model.specs.declared.values.DemandModel.TheVariants as demands
use Rattle.snd_model.specs.declared.values.LinkModel.TheVariants as links
use Rattle.snd_model.specs.declared.values.CapacityModel.TheVariants as capacities
use Rattle.snd_model.specs.declared.values.FixedChargeModel.TheVariants as charges
use Rattle.snd_model.specs.declared.values.RoutingModel.TheVariants as routings
use Rattle.snd_model.specs.declared.values.PathModel.TheVariants as paths
use Rattle.snd_model.specs.declared.values.HopModel.TheVariants as hops
use Rattle.snd_model.specs.declared.values.SurvivabilityModel.TheVariants as survivals
use Rattle.snd_model.specs.Table.{key_word, key_of, spelling, key_named, setting_named}

-- the spelling of a value names that value in the row of its key
pub setting-found : (s : Setting) → setting_named (key_of s) (spelling s) ≡ Some s
setting-found (Demand demands.Undirected) = refl
setting-found (Demand demands.Directed) = refl
setting-found (Link links.Undirected) = refl
setting-found (Link links.Directed) = refl
setting-found (Link links.Bidirected) = refl
setting-found (Capacity capacities.Modular) = refl
setting-found (Capacity capacities.Linear) = refl
setting-found (Capacity capacities.SingleModular) = refl
setting-found (Capacity capacities.Explicit) = refl
setting-found (FixedCharge charges.No) = refl
setting-found (FixedCharge charges.Yes) = refl
setting-found (Routing routings.SinglePath) = refl
setting-found (Routing routings.Continuous) = refl
setting-found (Routing routings.Integer) = refl
setting-found (Path paths.All) = refl
setting-found (Path paths.Explicit) = refl
setting-found (Hop hops.No) = refl
setting-found (Hop hops.Yes) = refl
setting-found (Survivability survivals.No) = refl
setting-found (Survivability survivals.Yes) = refl
setting-found (Survivability survivals.OnePlusOne) = refl
setting-found (Survivability survivals.SharedPath) = refl
setting-found (Survivability survivals.Unrestricted) = refl

-- a setting of a key
abbrev pub some_setting : Key → Setting
some_setting keys.Demand = Demand demands.Undirected
some_setting keys.Link = Link links.Undirected
some_setting keys.Capacity = Capacity capacities.Modular
some_setting keys.FixedCharge = FixedCharge charges.No
some_setting keys.Routing = Routing routings.SinglePath
some_setting keys.Path = Path paths.All
some_setting keys.Hop = Hop hops.No
some_setting keys.Survivability = Survivability survivals.No

-- the word of a key names that key, and the setting that is chosen for a key has that key
pub of_key : (k : Key) → (key_named (key_word k) ≡ Some k) × (key_of (some_setting k) ≡ k)
of_key keys.Demand = (refl, refl)
of_key keys.Link = (refl, refl)
of_key keys.Capacity = (refl, refl)
of_key keys.FixedCharge = (refl, refl)
of_key keys.Routing = (refl, refl)
of_key keys.Path = (refl, refl)
of_key keys.Hop = (refl, refl)
of_key keys.Survivability = (refl, refl)
