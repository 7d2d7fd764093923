-- The first value that is outside the profile, found along the keys.
use Rattle.std.proofs.Common.{◌≡◌, ◌≢◌, ℕ, zero, suc, ◌<◌, Bool, true, false, not, List, ◌++◌, ◌∷◌, length, take, drop, get_or, All, Some, None, inl, inr, refl, sym, ap, subst, ◌∙◌, arith}
use Rattle.std.proofs.lemmas.List.{get_or-take, length-take}
use Rattle.plan_base.specs.First.{IsFirst, when, fault_at}
use Rattle.plan_base.proofs.FirstFault.{fault_at-get_or, first_in-none, none-first_in, IsFirst-first_fault}
use Rattle.snd_model.specs.declared.keys.Key.{Key}
use Rattle.snd_model.specs.declared.keys.Key.TheVariants as keys
use Rattle.snd_model.specs.declared.values.DemandModel.TheVariants as demands
use Rattle.snd_model.specs.declared.values.LinkModel.TheVariants as links
use Rattle.snd_model.specs.declared.setting.Setting.TheVariants.{Demand}
use Rattle.snd_model.specs.declared.file.ModelFile.{ModelFile}
use Rattle.snd_model.specs.Table.{all_keys, number_of}
use Rattle.snd_model.specs.Grammar.{setting_of}
use Rattle.model_check.specs.declared.fault.CheckFault.{CheckFault}
use Rattle.model_check.specs.declared.fault.CheckFault.TheVariants.{Unsupported}
use Rattle.model_check.specs.Profile.{is_planned, AreAllPlanned, IsSupported}
use Rattle.model_check.specs.Refusals.{IsUnsupported}
use Rattle.model_check.specs.Telling.{outside_fault, value_fault, IsModelFault}

-- the place of a key in the table
place_of : Key → ℕ
place_of keys.Demand = 0
place_of keys.Link = 1
place_of keys.Capacity = 2
place_of keys.FixedCharge = 3
place_of keys.Routing = 4
place_of keys.Path = 5
place_of keys.Hop = 6
place_of keys.Survivability = 7

-- each key stands in its place
in_place : (key : Key) → (place_of key < length all_keys) × (get_or all_keys (place_of key) keys.Demand ≡ key)
unfolding place_of
in_place keys.Demand = (omega arith, refl)
in_place keys.Link = (omega arith, refl)
in_place keys.Capacity = (omega arith, refl)
in_place keys.FixedCharge = (omega arith, refl)
in_place keys.Routing = (omega arith, refl)
in_place keys.Path = (omega arith, refl)
in_place keys.Hop = (omega arith, refl)
in_place keys.Survivability = (omega arith, refl)

-- the test of a value, by its result
planned_from_none : (m : ModelFile) (key : Key) (b : Bool) → is_planned (setting_of m key) ≡ b → outside_fault m key ≡ None → is_planned (setting_of m key) ≡ true
planned_from_none m key true is none = is
planned_from_none m key false is none =
    absurd (let bad : Some (Unsupported key (number_of (setting_of m key))) ≡ None = sym (ap (λ b. when (not b) (Unsupported key (number_of (setting_of m key)))) is) ∙ none in cc)

none_outside : (m : ModelFile) (key : Key) → outside_fault m key ≡ None → is_planned (setting_of m key) ≡ true
none_outside m key none = planned_from_none m key (is_planned (setting_of m key)) refl none

-- a value of the profile has no fault
pub planned-none : (m : ModelFile) (key : Key) → is_planned (setting_of m key) ≡ true → outside_fault m key ≡ None
planned-none m key planned = ap (λ b. when (not b) (Unsupported key (number_of (setting_of m key)))) planned

-- a value outside the profile is unsupported, and named
pub outside-some : (m : ModelFile) (key : Key) → is_planned (setting_of m key) ≡ false → outside_fault m key ≡ Some (Unsupported key (number_of (setting_of m key)))
outside-some m key outside = ap (λ b. when (not b) (Unsupported key (number_of (setting_of m key)))) outside

-- a value that is found outside the profile
record IsFound (m : ModelFile) (key : Key) (e : CheckFault) : Type 0 where
  outside : is_planned (setting_of m key) ≡ false
  told : e ≡ Unsupported key (number_of (setting_of m key))

found_by : (m : ModelFile) (key : Key) (e : CheckFault) (b : Bool) → is_planned (setting_of m key) ≡ b → outside_fault m key ≡ Some e → IsFound m key e
found_by m key e true is found =
    absurd (let bad : None ≡ Some e = sym (ap (λ b. when (not b) (Unsupported key (number_of (setting_of m key)))) is) ∙ found in cc)
found_by m key e false is found =
    let same : Some (Unsupported key (number_of (setting_of m key))) ≡ Some e = sym (ap (λ b. when (not b) (Unsupported key (number_of (setting_of m key)))) is) ∙ found in
    record { outside = is; told = cc }

-- no value is outside the profile
planned_all : (m : ModelFile) → value_fault m ≡ None → AreAllPlanned m
unfolding value_fault
planned_all m none key =
    none_outside m key (sym (ap (outside_fault m) (in_place key).1) ∙ first_in-none (λ _ k. outside_fault m k) all_keys none (place_of key) keys.Demand (in_place key).0)

all_planned : (m : ModelFile) → AreAllPlanned m → value_fault m ≡ None
unfolding value_fault
all_planned m planned = none-first_in (λ _ k. outside_fault m k) all_keys (λ i key found. planned-none m key (planned key))

-- the keys before a place, the key there, and those behind it
split_at : (i : ℕ) → i < 8 → all_keys ≡ take i all_keys ++ get_or all_keys i keys.Demand ∷ drop (suc i) all_keys
split_at zero within = refl
split_at (suc zero) within = refl
split_at (suc (suc zero)) within = refl
split_at (suc (suc (suc zero))) within = refl
split_at (suc (suc (suc (suc zero)))) within = refl
split_at (suc (suc (suc (suc (suc zero))))) within = refl
split_at (suc (suc (suc (suc (suc (suc zero)))))) within = refl
split_at (suc (suc (suc (suc (suc (suc (suc zero))))))) within = refl
split_at (suc (suc (suc (suc (suc (suc (suc (suc n)))))))) within = absurd (omega arith)

-- the keys before a place are planned
planned_before : (m : ModelFile) (ks : List Key) (i : ℕ) → i < length ks → ((j : ℕ) → j < i → fault_at (λ _ k. outside_fault m k) ks j ≡ None) → All (λ k. is_planned (setting_of m k) ≡ true) (take i ks)
planned_before m ks i within before = λ j d inside.
    let small : j < i = omega (arith, inside, length-take i ks) in
    let here = sym (fault_at-get_or (λ _ k. outside_fault m k) ks j d (omega (arith, small, within))) ∙ before j small in
    subst (λ k. is_planned (setting_of m k) ≡ true) (sym (get_or-take i ks j d small)) (none_outside m (get_or ks j d) here)

-- the first of the checks along the keys is the first key whose value is outside the profile
first_told : (m : ModelFile) (e : CheckFault) → IsFirst (fault_at (λ _ k. outside_fault m k) all_keys) (length all_keys) e → IsModelFault m e
first_told m e first =
    let key : Key = get_or all_keys first.place keys.Demand in
    let here : outside_fault m key ≡ Some e = sym (fault_at-get_or (λ _ k. outside_fault m k) all_keys first.place keys.Demand first.within) ∙ first.found in
    let found : IsFound m key e = found_by m key e (is_planned (setting_of m key)) refl here in
    let unsupported : IsUnsupported m key (number_of (setting_of m key)) = record {
      cause = inl (record {
        before = take first.place all_keys;
        after = drop (suc first.place) all_keys;
        order = split_at first.place first.within;
        planned = planned_before m all_keys first.place first.within first.before;
        outside = found.outside;
      });
      number = refl;
    } in
    subst (IsModelFault m) (sym found.told) unsupported

-- the first value outside the profile is what is told of the model
pub value_fault_told : (m : ModelFile) (e : CheckFault) → value_fault m ≡ Some e → IsModelFault m e
unfolding value_fault
value_fault_told m e is =
    first_told m e (IsFirst-first_fault (fault_at (λ _ k. outside_fault m k) all_keys) (length all_keys) e is)

-- a model with a value outside the profile is not supported
pub not_supported : (m : ModelFile) (e : CheckFault) → value_fault m ≡ Some e → IsSupported m → ⊥
not_supported m e is supported = let bad : Some e ≡ None = sym is ∙ all_planned m supported.values in cc

-- undirected demands on links that are not
pub pair_told : (m : ModelFile) (value : ℕ) → value_fault m ≡ None → m.demand ≡ demands.Undirected → m.link ≢ links.Undirected → value ≡ number_of (Demand m.demand) → IsUnsupported m keys.Demand value
pair_told m value none demand link is = record {
  cause = inr (record { values = planned_all m none; demand = demand; link = link; told = refl });
  number = is;
}

-- each other pair
pub supported : (m : ModelFile) → value_fault m ≡ None → (m.demand ≡ demands.Undirected → m.link ≡ links.Undirected) → IsSupported m
supported m none pair = record { values = planned_all m none; pair = pair }

-- what the checks of a model say of it
pub ruleset model_faults = (value_fault_told, not_supported, pair_told, supported)
