-- Pieces of the check. Only clauses that are not public cite this module.
use Rattle.std.specs.Prelude.{not, Option}
use Rattle.plan_base.specs.First.{when, first_in}
use Rattle.plan_base.specs.declared.build_fault.BuildFault.{BuildFault}
use Rattle.plan_base.specs.declared.build_fault.BuildFault.TheVariants as build_faults
use Rattle.snd_model.specs.declared.keys.Key.{Key}
use Rattle.snd_model.specs.declared.file.ModelFile.{ModelFile}
use Rattle.snd_model.specs.Table.{all_keys, number_of}
use Rattle.snd_model.specs.Grammar.{setting_of}
use Rattle.model_check.specs.declared.fault.CheckFault.{CheckFault}
use Rattle.model_check.specs.declared.fault.CheckFault.TheVariants.{Unsupported, Build, OutOfMemory}
use Rattle.model_check.specs.Profile.{is_planned}
use Rattle.model_check.specs.Refusals.{IsUnsupported}

-- want of memory is one and the same, wherever it comes
abbrev pub as_check_fault : BuildFault → CheckFault
as_check_fault build_faults.OutOfMemory = OutOfMemory
as_check_fault fault = Build fault

-- the value of a key is outside the profile
abbrev pub outside_fault : ModelFile → Key → Option CheckFault
outside_fault m key = when (not (is_planned (setting_of m key))) (Unsupported key (number_of (setting_of m key)))

-- the first value that is outside the profile
unfoldable pub value_fault : ModelFile → Option CheckFault
value_fault m = first_in (λ _ key. outside_fault m key) all_keys

-- what is told of a model
abbrev pub IsModelFault : ModelFile → CheckFault → Type 0
IsModelFault m (Unsupported key value) = IsUnsupported m key value
IsModelFault m (Build fault) = ⊥
IsModelFault m OutOfMemory = ⊥
