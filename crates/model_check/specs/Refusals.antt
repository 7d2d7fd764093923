-- Why two files are refused: the first refusal in a stated order.
use Rattle.std.specs.Prelude.{ℕ, ◌≡◌, ◌≢◌, ◌≤◌, ◌⊎◌, true, false, List, ◌++◌, ◌∷◌, length, map, All, Some}
use Rattle.plan_base.specs.declared.parts.Parts.{Parts}
use Rattle.plan_base.specs.declared.build_fault.BuildFault.{BuildFault}
use Rattle.plan_base.specs.declared.build_fault.BuildFault.TheVariants as build_faults
use Rattle.plan_base.specs.Faults.{told_of, build_fault}
use Rattle.snd_network.specs.declared.file.NetworkFile.{NetworkFile}
use Rattle.snd_model.specs.declared.keys.Key.{Key}
use Rattle.snd_model.specs.declared.keys.Key.TheVariants as keys
use Rattle.snd_model.specs.declared.values.DemandModel.TheVariants as demands
use Rattle.snd_model.specs.declared.values.LinkModel.TheVariants as links
use Rattle.snd_model.specs.declared.file.ModelFile.{ModelFile}
use Rattle.snd_model.specs.Table.{all_keys, number_of}
use Rattle.snd_model.specs.Grammar.{setting_of}
use Rattle.model_check.specs.declared.fault.CheckFault.{CheckFault}
use Rattle.model_check.specs.declared.fault.CheckFault.TheVariants.{Unsupported, Build, OutOfMemory}
use Rattle.model_check.specs.Profile.{is_planned, AreAllPlanned, IsSupported}
use Rattle.model_check.specs.Reading.{orient_of, law_of, link_of_record, demand_of}

-- the key's value is outside the profile, and the value of each key before it in the table is in the profile
pub record IsFirstOutside (m : ModelFile) (key : Key) : Type 0 where
  pub before : List Key
  pub after : List Key
  pub order : all_keys ≡ before ++ key ∷ after
  pub planned : All (λ earlier. is_planned (setting_of m earlier) ≡ true) before
  pub outside : is_planned (setting_of m key) ≡ false

-- every value is in the profile, but undirected demands are asked for on links that are not; the key is that of demands
pub record IsBadPair (m : ModelFile) (key : Key) : Type 0 where
  pub values : AreAllPlanned m
  pub demand : m.demand ≡ demands.Undirected
  pub link : m.link ≢ links.Undirected
  pub told : key ≡ keys.Demand

-- what is told of a model that is not planned: the key, and the number of its value in the key's row
pub record IsUnsupported (m : ModelFile) (key : Key) (value : ℕ) : Type 0 where
  pub cause : IsFirstOutside m key ⊎ IsBadPair m key
  pub number : value ≡ number_of (setting_of m key)

-- the parts that are built, with the count of nodes as a fault tells it
abbrev pub parts_of_files : NetworkFile → ModelFile → Parts
parts_of_files net model = record {
  orient = orient_of model.link;
  law = law_of model.capacity;
  nodes = told_of (length net.nodes);
  links = map link_of_record net.links;
  demands = map (demand_of model.hop) net.demands;
}

-- a refusal of the model comes before every fault of the parts; want of memory may be told of any files
abbrev pub IsCheckFault : NetworkFile → ModelFile → CheckFault → Type 0
IsCheckFault net model (Unsupported key value) = IsUnsupported model key value
IsCheckFault net model (Build fault) = IsSupported model × (build_fault (parts_of_files net model) ≡ Some fault)
IsCheckFault net model OutOfMemory = Unit {0}

-- what can be wrong with the parts of a network that is well formed: a loop, or one of the limits 3 to 8
abbrev pub CanComeOfParts : BuildFault → Type 0
CanComeOfParts (build_faults.LoopLink link) = Unit {0}
CanComeOfParts (build_faults.LoopDemand demand) = Unit {0}
CanComeOfParts (build_faults.EndOutOfRange what) = ⊥
CanComeOfParts (build_faults.OverLimit limit at) = (3 ≤ limit) × (limit ≤ 8)
CanComeOfParts build_faults.OutOfMemory = ⊥

-- what a network that is well formed can be refused for
abbrev pub CanCome : CheckFault → Type 0
CanCome (Unsupported key value) = Unit {0}
CanCome (Build fault) = CanComeOfParts fault
CanCome OutOfMemory = Unit {0}
