-- Which names a network text may have in their places.
use Rattle.std.specs.Prelude.{◌≡◌, ℕ, ◌≤◌, nat_lt, false, if◌then◌else◌, List, length, Result, Ok, Err}
use Rattle.snd_reader.specs.declared.fault.Complaint.{Complaint}
use Rattle.snd_reader.specs.declared.fault.Complaint.TheVariants.{Twice, LongId}
use Rattle.snd_reader.specs.Names.{is_among}
use Rattle.snd_network.specs.declared.limits.TheConstants.{MAX_NAME_BYTES}

-- a name that refers to a node has at most 64 bytes
abbrev pub checked_length : List ℕ → Result (Unit {0}) Complaint
checked_length bytes = if nat_lt MAX_NAME_BYTES (length bytes) then Err LongId else Ok tt

-- a name of its own has at most 64 bytes, and is none of the names before it
abbrev pub IsNewName : List (List ℕ) → List ℕ → Type 0
IsNewName names bytes = (length bytes ≤ MAX_NAME_BYTES) × (is_among names bytes ≡ false)

-- what is wrong with a name of its own
abbrev pub checked_name : List (List ℕ) → List ℕ → Result (Unit {0}) Complaint
checked_name names bytes = if nat_lt MAX_NAME_BYTES (length bytes) then Err LongId else if is_among names bytes then Err Twice else Ok tt
