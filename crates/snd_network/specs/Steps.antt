-- Steps of the readers' loops. No public clause cites this module.
use Rattle.std.specs.Prelude.{◌≡◌, ℕ, false, List, Some, Result, Ok, Err}
use Rattle.snd_reader.specs.declared.fault.TextFault.{TextFault}
use Rattle.snd_reader.specs.declared.fault.TextFault.TheVariants.{Unknown, OutOfMemory}
use Rattle.snd_network.specs.declared.draft.NodeItem.{NodeItem}
use Rattle.snd_network.specs.declared.draft.NodeItem.TheVariants as node_items
use Rattle.snd_network.specs.declared.draft.End.{End}
use Rattle.snd_reader.specs.Names.{is_among}
use Rattle.snd_network.specs.Ends.{first_unknown}

-- the name of the item is none of these
abbrev pub IsNewItem : List (List ℕ) → NodeItem → Type 0
IsNewItem names (node_items.Name bytes) = is_among names bytes ≡ false
IsNewItem names node_items.Place = Unit {0}

-- the new value is this one, unless memory runs out
abbrev pub Makes : {S : Type 0} → S → Result (Unit {0}) TextFault → S → Type 0
Makes new (Ok _) wanted = new ≡ wanted
Makes new (Err f) wanted = f ≡ OutOfMemory

-- the fault is the first of these ends that is no node, or want of memory
abbrev pub IsUnknown : List (List ℕ) → List End → TextFault → Type 0
IsUnknown names ends (Unknown at) = first_unknown names ends ≡ Some at
IsUnknown names ends OutOfMemory = Unit {0}
IsUnknown names ends f = ⊥
