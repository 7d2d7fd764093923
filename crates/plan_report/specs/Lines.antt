-- The lines that the program writes. Each ends with a line feed; its words are parted by one blank, which is 32.
use Rattle.std.specs.Prelude.{ℕ, ◌≡◌, ◌<◌, List, [], ◌∷◌, ◌++◌, length, codes, decimal, slice_get, slice_index_or, Option, Some, None}
use Rattle.std.specs.List.{flat_map, sum_by}
use Rattle.plan_base.specs.declared.parts.Parts.{Parts}
use Rattle.plan_base.specs.Facts.{total_load}
use Rattle.plan_base.specs.Arcs.{link_at}
use Rattle.link_steps.specs.Costs.{HasSteps}
use Rattle.scaled_numbers.specs.Canonical.{grains_text}
use Rattle.scaled_numbers.specs.declared.fault.NumberFault.{NumberFault}
use Rattle.scaled_numbers.specs.declared.fault.NumberFault.TheVariants.{NotANumber, Finer, TooLarge}
use Rattle.snd_reader.specs.declared.fault.TextFault.{TextFault}
use Rattle.snd_reader.specs.declared.fault.TextFault.TheVariants.{Header, Unexpected, Number, Twice, Unknown, Ended, LongId, Control, OutOfMemory}
use Rattle.snd_model.specs.declared.keys.Key.{Key}
use Rattle.snd_model.specs.declared.setting.Setting.{Setting}
use Rattle.snd_model.specs.Table.{key_word, row, spelling}
use Rattle.plan_report.specs.declared.run_fault.FileKind.{FileKind}
use Rattle.plan_report.specs.declared.run_fault.FileKind.TheVariants as files
use Rattle.plan_report.specs.declared.run_fault.RunFault.{RunFault}
use Rattle.plan_report.specs.declared.run_fault.RunFault.TheVariants.{Usage, Text, PlanText, LoopLink, LoopDemand, Unsupported, TooLong, OverLimit, Read}
use Rattle.plan_report.specs.declared.check_lines.TheConstants.{LOAD_SCALE}

-- each number behind a blank
abbrev pub numbers : List ℕ → List ℕ
numbers ns = flat_map (λ n. 32 ∷ decimal n) ns

-- these words and then these numbers
abbrev pub line : List ℕ → List ℕ → List ℕ
line words ns = words ++ numbers ns ++ codes "\n"

-- how the program is called
abbrev pub usage_line : List ℕ
usage_line = codes "usage: sndplan plan NET MODEL [--workers N] [--nodes B] | verify NET MODEL PLAN | report NET MODEL PLAN | check NET MODEL | sample NUMBER NODES DEMANDS | trial NUMBER NODES DEMANDS | upgrade PLAN\n"

-- ---- faults

-- the words that a refused text's line begins with
abbrev pub bad_text : FileKind → List ℕ
bad_text files.Network = codes "bad text network"
bad_text files.Model = codes "bad text model"
bad_text files.Plan = codes "bad text plan"

-- the number of a fault of a number
abbrev pub fault_number : NumberFault → ℕ
fault_number (NotANumber at) = 1
fault_number Finer = 2
fault_number TooLarge = 3

-- the number of a fault of a text, its place, and the number of the fault of a number; want of memory has no line of its own
abbrev pub text_fault_numbers : TextFault → List ℕ
text_fault_numbers Header = 1 ∷ 0 ∷ []
text_fault_numbers (Unexpected at w) = 2 ∷ at ∷ []
text_fault_numbers (Number at f) = 3 ∷ at ∷ fault_number f ∷ []
text_fault_numbers (Twice at) = 4 ∷ at ∷ []
text_fault_numbers (Unknown at) = 5 ∷ at ∷ []
text_fault_numbers (Ended at) = 6 ∷ at ∷ []
text_fault_numbers (LongId at) = 7 ∷ at ∷ []
text_fault_numbers (Control at) = 8 ∷ at ∷ []
text_fault_numbers OutOfMemory = 9 ∷ 0 ∷ []

-- the line of a refused network or model text
abbrev pub text_fault_line : FileKind → TextFault → List ℕ
text_fault_line file fault = line (bad_text file) (text_fault_numbers fault)

-- the first spelling of a value, nothing where there is none
abbrev pub word_of : Option Setting → List ℕ
word_of None = []
word_of (Some setting) = spelling setting

-- the first spelling of the value of this number in the key's row
abbrev pub value_word : Key → ℕ → List ℕ
value_word key value = word_of (slice_get (row key) value)

-- the line of a value outside the profile: the key, and the first spelling of the value's group
abbrev pub unsupported_line : Key → ℕ → List ℕ
unsupported_line key value = codes "unsupported " ++ key_word key ++ codes " " ++ value_word key value ++ codes "\n"

-- the line of a text that is too long: the number of its limit, and which text
abbrev pub too_long_line : FileKind → List ℕ
too_long_line files.Network = codes "over limit 1 network\n"
too_long_line files.Model = codes "over limit 1 model\n"
too_long_line files.Plan = codes "over limit 2 plan\n"

-- the line of a text that could not be read
abbrev pub read_line : FileKind → List ℕ
read_line files.Network = codes "read fault network\n"
read_line files.Model = codes "read fault model\n"
read_line files.Plan = codes "read fault plan\n"

-- the line of each fault
abbrev pub fault_line : RunFault → List ℕ
fault_line Usage = usage_line
fault_line (Text file fault) = text_fault_line file fault
fault_line (PlanText rule at) = line (codes "bad text plan") (rule ∷ at ∷ [])
fault_line (LoopLink link) = line (codes "bad text loop link") (link.0 ∷ [])
fault_line (LoopDemand demand) = line (codes "bad text loop demand") (demand.0 ∷ [])
fault_line (Unsupported key value) = unsupported_line key value
fault_line (TooLong file) = too_long_line file
fault_line (OverLimit limit at) = line (codes "over limit") (limit ∷ at ∷ [])
fault_line (Read file) = read_line file

-- ---- checked networks

-- the first links, this many, have together so many steps
pub record HaveSteps (p : Parts) (count all : ℕ) : Type 0 where
  pub steps : List ℕ
  pub one_each : length steps ≡ count
  pub each : (e : ℕ) → e < count → HasSteps p.law (total_load p) (link_at p e) (slice_index_or steps e 0)
  pub together : all ≡ sum_by (λ n. n) steps

-- the counts of nodes, links and demands, and the total load in units, each behind its word
abbrev pub sizes_text : Parts → List ℕ
sizes_text p =
    codes " nodes" ++ numbers (p.nodes ∷ [])
    ++ codes " links" ++ numbers (length p.links ∷ [])
    ++ codes " demands" ++ numbers (length p.demands ∷ [])
    ++ codes " load " ++ grains_text (total_load p) LOAD_SCALE

-- the line of a network with so many steps in all
abbrev pub check_line_with : Parts → ℕ → List ℕ
check_line_with p steps = codes "GOOD" ++ sizes_text p ++ codes " steps" ++ numbers (steps ∷ []) ++ codes "\n"

-- the line of a checked network: its counts, its load, and the steps of all its links together
pub record IsCheckLine (p : Parts) (text : List ℕ) : Type 0 where
  pub steps : ℕ
  pub have : HaveSteps p (length p.links) steps
  pub is : text ≡ check_line_with p steps
