-- The grammar of model texts: which lists of tokens stand for which models.
use Rattle.std.specs.Prelude.{◌≡◌, ℕ, Bool, true, false, ◌&&◌, is_some, List, Option, Some, None}
use Rattle.snd_reader.specs.Readers.{word, equals_sign, the_end, Placed}
use Rattle.snd_reader.specs.Forms.{Then, IsToken, IsNothing, Items}
use Rattle.snd_model.specs.declared.keys.Key.{Key}
use Rattle.snd_model.specs.declared.keys.Key.TheVariants as keys
use Rattle.snd_model.specs.declared.setting.Setting.{Setting}
use Rattle.snd_model.specs.declared.setting.Setting.TheVariants.{Demand, Link, Capacity, FixedCharge, Routing, Path, Hop, Survivability}
use Rattle.snd_model.specs.declared.draft.Draft.{Draft}
use Rattle.snd_model.specs.declared.file.ModelFile.{ModelFile}
use Rattle.snd_model.specs.Table.{key_word, setting_named}

-- ---- settings

-- the setting of a key in a model
abbrev pub setting_of : ModelFile → Key → Setting
setting_of file keys.Demand = Demand file.demand
setting_of file keys.Link = Link file.link
setting_of file keys.Capacity = Capacity file.capacity
setting_of file keys.FixedCharge = FixedCharge file.fixed_charge
setting_of file keys.Routing = Routing file.routing
setting_of file keys.Path = Path file.path
setting_of file keys.Hop = Hop file.hop
setting_of file keys.Survivability = Survivability file.survivability

-- no setting
abbrev pub no_settings : Draft
no_settings = record { demand = None; link = None; capacity = None; fixed_charge = None; routing = None; path = None; hop = None; survivability = None }

-- all settings of a model
abbrev pub settings_of : ModelFile → Draft
settings_of file = record {
  demand = Some file.demand;
  link = Some file.link;
  capacity = Some file.capacity;
  fixed_charge = Some file.fixed_charge;
  routing = Some file.routing;
  path = Some file.path;
  hop = Some file.hop;
  survivability = Some file.survivability;
}

-- one setting more
abbrev pub and_setting : Draft → Setting → Draft
and_setting d (Demand v) = record d { demand = Some v }
and_setting d (Link v) = record d { link = Some v }
and_setting d (Capacity v) = record d { capacity = Some v }
and_setting d (FixedCharge v) = record d { fixed_charge = Some v }
and_setting d (Routing v) = record d { routing = Some v }
and_setting d (Path v) = record d { path = Some v }
and_setting d (Hop v) = record d { hop = Some v }
and_setting d (Survivability v) = record d { survivability = Some v }

-- the key has a value
abbrev pub has_setting : Draft → Key → Bool
has_setting d keys.Demand = is_some d.demand
has_setting d keys.Link = is_some d.link
has_setting d keys.Capacity = is_some d.capacity
has_setting d keys.FixedCharge = is_some d.fixed_charge
has_setting d keys.Routing = is_some d.routing
has_setting d keys.Path = is_some d.path
has_setting d keys.Hop = is_some d.hop
has_setting d keys.Survivability = is_some d.survivability

-- each key has a value
abbrev pub is_complete : Draft → Bool
is_complete d = is_some d.demand && is_some d.link && is_some d.capacity && is_some d.fixed_charge && is_some d.routing && is_some d.path && is_some d.hop && is_some d.survivability

-- ---- single tokens

-- an equals sign
abbrev pub IsEquals : List Placed → Unit {0} → Type 0
IsEquals = IsToken (λ t _. t.is ≡ equals_sign)

-- a word that is a spelling of this value in the row of the key
abbrev pub IsValueWord : Key → Placed → Setting → Type 0
IsValueWord k t s = (bytes : List ℕ) × (t.is ≡ word bytes) × (setting_named k bytes ≡ Some s)

-- the word of a key without a value begins a pair, and the text may end where each key has a value
abbrev pub BeginsPair : Draft → Placed → Option Key → Type 0
BeginsPair d t None = (t.is ≡ the_end) × (is_complete d ≡ true)
BeginsPair d t (Some k) = (t.is ≡ word (key_word k)) × (has_setting d k ≡ false)

-- ---- whole texts

-- behind a key an equals sign and a value of this key
abbrev pub PairForm : Draft → Key → List Placed → Draft → Type 0
PairForm d k = Then IsEquals (λ _. Then (IsToken (IsValueWord k)) (λ s. IsNothing (and_setting d s)))

-- pairs of different keys, and the end of the text behind the eighth
abbrev pub PairsForm : List Placed → Draft → Type 0
PairsForm = Items BeginsPair PairForm no_settings

-- the tokens are pairs, one for each key, and then the text ends; they are the settings of the model
abbrev pub ModelForm : List Placed → ModelFile → Type 0
ModelForm ts file = PairsForm ts (settings_of file)
