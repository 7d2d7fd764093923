-- The model table: the keys of a model text, and the values of each with their spellings.
use Rattle.std.specs.Prelude.{ℕ, Bool, nat_eq, List, [], ◌∷◌, codes, Option}
use Rattle.std.specs.List.{find, list_any, position_or_len}
use Rattle.std.specs.Cmp.Lexicographic.{pointwise}
use Rattle.snd_model.specs.declared.keys.Key.{Key}
use Rattle.snd_model.specs.declared.keys.Key.TheVariants as keys
use Rattle.snd_model.specs.declared.setting.Setting.{Setting}
use Rattle.snd_model.specs.declared.setting.Setting.TheVariants.{Demand, Link, Capacity, FixedCharge, Routing, Path, Hop, Survivability}
use Rattle.snd_model.specs.declared.values.DemandModel.TheVariants as demands
use Rattle.snd_model.specs.declared.values.LinkModel.TheVariants as links
use Rattle.snd_model.specs.declared.values.CapacityModel.TheVariants as capacities
use Rattle.snd_model.specs.declared.values.FixedChargeModel.TheVariants as charges
use Rattle.snd_model.specs.declared.values.RoutingModel.TheVariants as routings
use Rattle.snd_model.specs.declared.values.PathModel.TheVariants as paths
use Rattle.snd_model.specs.declared.values.HopModel.TheVariants as hops
use Rattle.snd_model.specs.declared.values.SurvivabilityModel.TheVariants as survivals

-- the keys, in the order of the table
abbrev pub all_keys : List Key
all_keys = keys.Demand ∷ keys.Link ∷ keys.Capacity ∷ keys.FixedCharge ∷ keys.Routing ∷ keys.Path ∷ keys.Hop ∷ keys.Survivability ∷ []

-- the word of a key
abbrev pub key_word : Key → List ℕ
key_word keys.Demand = codes "DEMAND_MODEL"
key_word keys.Link = codes "LINK_MODEL"
key_word keys.Capacity = codes "LINK_CAPACITY_MODEL"
key_word keys.FixedCharge = codes "FIXED_CHARGE_MODEL"
key_word keys.Routing = codes "ROUTING_MODEL"
key_word keys.Path = codes "ADMISSIBLE_PATH_MODEL"
key_word keys.Hop = codes "HOP_LIMIT_MODEL"
key_word keys.Survivability = codes "SURVIVABILITY_MODEL"

-- the key of a setting
abbrev pub key_of : Setting → Key
key_of (Demand v) = keys.Demand
key_of (Link v) = keys.Link
key_of (Capacity v) = keys.Capacity
key_of (FixedCharge v) = keys.FixedCharge
key_of (Routing v) = keys.Routing
key_of (Path v) = keys.Path
key_of (Hop v) = keys.Hop
key_of (Survivability v) = keys.Survivability

-- the values of a key in the order of its row, each as a setting
abbrev pub row : Key → List Setting
row keys.Demand = Demand demands.Undirected ∷ Demand demands.Directed ∷ []
row keys.Link = Link links.Undirected ∷ Link links.Directed ∷ Link links.Bidirected ∷ []
row keys.Capacity = Capacity capacities.Modular ∷ Capacity capacities.Linear ∷ Capacity capacities.SingleModular ∷ Capacity capacities.Explicit ∷ []
row keys.FixedCharge = FixedCharge charges.No ∷ FixedCharge charges.Yes ∷ []
row keys.Routing = Routing routings.SinglePath ∷ Routing routings.Continuous ∷ Routing routings.Integer ∷ []
row keys.Path = Path paths.All ∷ Path paths.Explicit ∷ []
row keys.Hop = Hop hops.No ∷ Hop hops.Yes ∷ []
row keys.Survivability = Survivability survivals.No ∷ Survivability survivals.Yes ∷ Survivability survivals.OnePlusOne ∷ Survivability survivals.SharedPath ∷ Survivability survivals.Unrestricted ∷ []

-- how a value is written in its own texts
abbrev pub spelling : Setting → List ℕ
spelling (Demand demands.Undirected) = codes "UNDIRECTED"
spelling (Demand demands.Directed) = codes "DIRECTED"
spelling (Link links.Undirected) = codes "UNDIRECTED"
spelling (Link links.Directed) = codes "DIRECTED"
spelling (Link links.Bidirected) = codes "BIDIRECTED"
spelling (Capacity capacities.Modular) = codes "MODULAR"
spelling (Capacity capacities.Linear) = codes "LINEAR"
spelling (Capacity capacities.SingleModular) = codes "SINGLE_MODULAR"
spelling (Capacity capacities.Explicit) = codes "EXPLICIT"
spelling (FixedCharge charges.No) = codes "NO"
spelling (FixedCharge charges.Yes) = codes "YES"
spelling (Routing routings.SinglePath) = codes "SINGLE_PATH"
spelling (Routing routings.Continuous) = codes "CONTINUOUS"
spelling (Routing routings.Integer) = codes "INTEGER"
spelling (Path paths.All) = codes "ALL"
spelling (Path paths.Explicit) = codes "EXPLICIT"
spelling (Hop hops.No) = codes "NO"
spelling (Hop hops.Yes) = codes "YES"
spelling (Survivability survivals.No) = codes "NO"
spelling (Survivability survivals.Yes) = codes "YES"
spelling (Survivability survivals.OnePlusOne) = codes "ONE_PLUS_ONE_PROTECTION"
spelling (Survivability survivals.SharedPath) = codes "SHARED_PATH_PROTECTION"
spelling (Survivability survivals.Unrestricted) = codes "UNRESTRICTED_FLOW_RECONFIGURATION"

-- the further spellings of a value, which mean the same
abbrev pub other_spellings : Setting → List (List ℕ)
other_spellings (Demand demands.Undirected) = codes "UNDIRECTED_DEMANDS" ∷ []
other_spellings (Demand demands.Directed) = codes "DIRECTED_DEMANDS" ∷ []
other_spellings (Link links.Undirected) = codes "UNDIRECTED_LINKS" ∷ []
other_spellings (Link links.Directed) = codes "DIRECTED_LINKS" ∷ []
other_spellings (Link links.Bidirected) = codes "BIDIRECTED_LINKS" ∷ []
other_spellings (Capacity capacities.Modular) = codes "MODULAR_CAPACITIES" ∷ codes "MODULAR_LINK_CAPACITIES" ∷ []
other_spellings (Capacity capacities.Linear) = codes "LINEAR_CAPACITIES" ∷ codes "LINEAR_LINK_CAPACITIES" ∷ []
other_spellings (Capacity capacities.SingleModular) = codes "SINGLE_MODULAR_CAPACITIES" ∷ []
other_spellings (Capacity capacities.Explicit) = codes "EXPLICIT_CAPACITIES" ∷ codes "EXPLICIT_LINK_CAPACITIES" ∷ []
other_spellings (FixedCharge charges.No) = codes "NONE" ∷ codes "NO_FIXED_CHARGE" ∷ []
other_spellings (FixedCharge charges.Yes) = codes "FIXED_CHARGE" ∷ []
other_spellings (Routing routings.SinglePath) = codes "SINGLE_PATHS" ∷ codes "SINGLE_PATH_ROUTING" ∷ []
other_spellings (Routing routings.Continuous) = codes "CONTINUOUS_ROUTING" ∷ []
other_spellings (Routing routings.Integer) = codes "INTEGER_ROUTING" ∷ []
other_spellings (Path paths.All) = codes "ALL_PATHS" ∷ []
other_spellings (Path paths.Explicit) = codes "EXPLICIT_LIST" ∷ []
other_spellings (Hop hops.No) = codes "NONE" ∷ codes "NO_HOP_LIMITS" ∷ codes "IGNORE" ∷ []
other_spellings (Hop hops.Yes) = codes "INDIVIDUAL" ∷ codes "INDIVIDUAL_HOP_LIMITS" ∷ []
other_spellings (Survivability survivals.No) = codes "NONE" ∷ codes "NO_SURVIVABILITY" ∷ []
other_spellings (Survivability survivals.Yes) = []
other_spellings (Survivability survivals.OnePlusOne) = []
other_spellings (Survivability survivals.SharedPath) = []
other_spellings (Survivability survivals.Unrestricted) = []

-- it is a spelling of the value
abbrev pub is_spelling : Setting → List ℕ → Bool
is_spelling s bytes = list_any (λ known. pointwise nat_eq bytes known) (spelling s ∷ other_spellings s)

-- the key of this word, if it is one
abbrev pub key_named : List ℕ → Option Key
key_named bytes = find (λ k. pointwise nat_eq bytes (key_word k)) all_keys

-- the value of this spelling in a key's row, if it is one
abbrev pub setting_named : Key → List ℕ → Option Setting
setting_named k bytes = find (λ s. is_spelling s bytes) (row k)

-- the number of a value in its row, from 0 on
abbrev pub number_of : Setting → ℕ
number_of s = position_or_len (λ u. pointwise nat_eq (spelling s) (spelling u)) (row (key_of s))
