-- What single tokens stand for in network texts, or what is wrong with them.
use Rattle.std.specs.Prelude.{ℕ, ◌+◌, Bool, true, false, ◌||◌, ◌&&◌, ◌==◌, nat_eq, is_some, if◌then◌else◌, List, [], ◌∷◌, codes, Option, Some, None, Result, Ok, Err}
use Rattle.std.specs.Cmp.Lexicographic.{pointwise}
use Rattle.scaled_numbers.specs.declared.fault.NumberFault.{NumberFault}
use Rattle.scaled_numbers.specs.declared.fault.NumberFault.TheVariants as faults
use Rattle.scaled_numbers.specs.Scanning.{decimal_of}
use Rattle.snd_reader.specs.declared.fault.Wanted.TheVariants as wants
use Rattle.snd_reader.specs.declared.fault.Complaint.{Complaint}
use Rattle.snd_reader.specs.declared.fault.Complaint.TheVariants.{Unexpected, Number, Twice, Ended}
use Rattle.snd_reader.specs.Readers.{Lexeme, word, open_bracket, close_bracket, the_end, Placed}
use Rattle.snd_reader.specs.Tests.{refused, number_test}
use Rattle.snd_network.specs.declared.draft.End.{End}
use Rattle.snd_network.specs.declared.draft.NodeItem.{NodeItem}
use Rattle.snd_network.specs.declared.draft.NodeItem.TheVariants as node_items
use Rattle.snd_network.specs.declared.draft.NodeList.{NodeList}
use Rattle.snd_network.specs.declared.draft.Draft.{Draft}
use Rattle.snd_network.specs.declared.draft.Section.{Section}
use Rattle.snd_network.specs.declared.draft.Section.TheVariants.{Nodes, Links, Demands, Meta, Paths}
use Rattle.snd_network.specs.Names.{checked_length, checked_name}

-- ---- names

-- the end of a link or demand at a place, if its name is not too long
abbrev pub end_by : ℕ → List ℕ → Result (Unit {0}) Complaint → Result End Complaint
end_by at bytes (Ok _) = Ok (record { at = at; name = bytes })
end_by at bytes (Err c) = Err c

-- the end of a link or demand
abbrev pub end_at : ℕ → Lexeme → Result End Complaint
end_at at (word bytes) = end_by at bytes (checked_length bytes)
end_at at l = Err (refused wants.Name l)

-- the end of a link or demand, with its place
abbrev pub end_test : Placed → Result End Complaint
end_test t = end_at t.at t.is

-- ---- lists of named things

-- the name with which an item of a list begins
abbrev pub named : List ℕ → Result (Unit {0}) Complaint → Result (Option (List ℕ)) Complaint
named bytes (Ok _) = Ok (Some bytes)
named bytes (Err c) = Err c

-- a name that is new among these begins an item, and a Close ends the list
abbrev pub list_head : List (List ℕ) → Lexeme → Result (Option (List ℕ)) Complaint
list_head names (word bytes) = named bytes (checked_name names bytes)
list_head names close_bracket = Ok None
list_head names l = Err (refused wants.Name l)

-- the name with which a node begins
abbrev pub node_named : List ℕ → Result (Unit {0}) Complaint → Result (Option NodeItem) Complaint
node_named bytes (Ok _) = Ok (Some (node_items.Name bytes))
node_named bytes (Err c) = Err c

-- A new name begins a node, an Open the place of the node whose name stands before it, and a Close ends the list.
abbrev pub node_head : NodeList → Lexeme → Result (Option NodeItem) Complaint
node_head s (word bytes) = node_named bytes (checked_name s.names bytes)
node_head s open_bracket = if is_some s.pending then Ok (Some node_items.Place) else Err (Unexpected wants.Name)
node_head s close_bracket = Ok None
node_head s l = Err (refused wants.Name l)

-- ---- numbers

-- a number begins a module, and a Close ends the list
abbrev pub module_begun : Result ℕ Complaint → Result (Option ℕ) Complaint
module_begun (Ok n) = Ok (Some n)
module_begun (Err c) = Err c

-- what a token is between modules
abbrev pub module_head : Lexeme → Result (Option ℕ) Complaint
module_head (word bytes) = module_begun (number_test 6 (word bytes))
module_head close_bracket = Ok None
module_head l = Err (refused wants.Number l)

-- it is `+` or `-`
abbrev pub is_sign : ℕ → Bool
is_sign byte = byte == 43 || byte == 45

-- a number of any size behind so many bytes
abbrev pub sized : ℕ → Result ℕ NumberFault → Result (Unit {0}) Complaint
sized before (Ok n) = Ok tt
sized before (Err faults.Finer) = Ok tt
sized before (Err faults.TooLarge) = Ok tt
sized before (Err (faults.NotANumber at)) = Err (Number (faults.NotANumber (before + at)))

-- a number of any size, with at most one sign in front
abbrev pub checked_coordinate : List ℕ → Result (Unit {0}) Complaint
checked_coordinate [] = sized 0 (decimal_of [] 6)
checked_coordinate (byte ∷ bytes) = if is_sign byte then sized 1 (decimal_of bytes 6) else sized 0 (decimal_of (byte ∷ bytes) 6)

-- the word, if it is good
abbrev pub kept : List ℕ → Result (Unit {0}) Complaint → Result (List ℕ) Complaint
kept bytes (Ok _) = Ok bytes
kept bytes (Err c) = Err c

-- a coordinate is kept as its word
abbrev pub coordinate_test : Lexeme → Result (List ℕ) Complaint
coordinate_test (word bytes) = kept bytes (checked_coordinate bytes)
coordinate_test l = Err (refused wants.Number l)

-- a hop limit, in links
abbrev pub limited : Result ℕ Complaint → Result (Option ℕ) Complaint
limited (Ok n) = Ok (Some n)
limited (Err c) = Err c

-- the word `UNLIMITED`, or the most links of a path
abbrev pub hops_test : Lexeme → Result (Option ℕ) Complaint
hops_test (word bytes) = if pointwise nat_eq bytes (codes "UNLIMITED") then Ok None else limited (number_test 0 (word bytes))
hops_test l = Err (refused wants.Number l)

-- ---- sections

-- the section of this name, if it is one
abbrev pub section_named : List ℕ → Option Section
section_named bytes =
    if pointwise nat_eq bytes (codes "NODES") then Some Nodes else
    if pointwise nat_eq bytes (codes "LINKS") then Some Links else
    if pointwise nat_eq bytes (codes "DEMANDS") then Some Demands else
    if pointwise nat_eq bytes (codes "META") then Some Meta else
    if pointwise nat_eq bytes (codes "ADMISSIBLE_PATHS") then Some Paths else None

-- the section has been read
abbrev pub has_section : Draft → Section → Bool
has_section d Nodes = is_some d.nodes
has_section d Links = is_some d.links
has_section d Demands = is_some d.demands
has_section d Meta = d.has_meta
has_section d Paths = d.has_paths

-- each section stands at most once
abbrev pub once : Bool → Section → Result (Option Section) Complaint
once true k = Err Twice
once false k = Ok (Some k)

-- a word that is no section cannot stand in a section's place
abbrev pub section_begun : Draft → Option Section → Result (Option Section) Complaint
section_begun d None = Err (Unexpected wants.Section)
section_begun d (Some k) = once (has_section d k) k

-- the sections that must be there are there
abbrev pub is_complete : Draft → Bool
is_complete d = is_some d.nodes && is_some d.links && is_some d.demands

-- A section begins with its name, and the text may end where the three sections are there.
abbrev pub section_head : Draft → Lexeme → Result (Option Section) Complaint
section_head d (word bytes) = section_begun d (section_named bytes)
section_head d the_end = if is_complete d then Ok None else Err Ended
section_head d l = Err (Unexpected wants.Section)
