-- That a text ends too soon is told of no token but its end.
use Rattle.std.proofs.Common.{◌≡◌, ℕ, Bool, true, false, List, [], ◌∷◌, length, Option, Some, None, refl}
use Rattle.std.specs.Prelude.{Result, Ok, Err, nat_lt, nat_eq, is_some, if◌then◌else◌, codes}
use Rattle.std.specs.Cmp.Lexicographic.{pointwise}
use Rattle.scaled_numbers.specs.declared.fault.NumberFault.{NumberFault}
use Rattle.scaled_numbers.specs.declared.fault.NumberFault.TheVariants as number_faults
use Rattle.scaled_numbers.specs.Scanning.{decimal_of}
use Rattle.snd_reader.specs.declared.fault.Complaint.{Complaint}
use Rattle.snd_reader.specs.declared.fault.Complaint.TheVariants.{Unexpected, Twice, LongId, Ended}
use Rattle.snd_reader.specs.declared.fault.Wanted.TheVariants as wants
use Rattle.snd_reader.specs.Readers.{Lexeme, word, open_bracket, the_end}
use Rattle.snd_reader.specs.Tests.{numbered}
use Rattle.snd_network.specs.declared.draft.NodeItem.{NodeItem}
use Rattle.snd_network.specs.declared.draft.NodeItem.TheVariants as node_items
use Rattle.snd_network.specs.declared.draft.NodeList.{NodeList}
use Rattle.snd_network.specs.declared.draft.Draft.{Draft}
use Rattle.snd_network.specs.declared.draft.Section.{Section}
use Rattle.snd_network.specs.declared.limits.TheConstants.{MAX_NAME_BYTES}
use Rattle.snd_reader.specs.Names.{is_among}
use Rattle.snd_network.specs.Tests.{end_by, end_at, named, list_head, node_named, node_head, module_begun, module_head, is_sign, sized, checked_coordinate, kept, coordinate_test, limited, hops_test, section_named, has_section, once, section_begun, section_head}

-- where the end of a link or demand is wanted, only the end of the text is told as ended too soon
pub end-end : (at : ℕ) (l : Lexeme) → end_at at l ≡ Err Ended → l ≡ the_end
end-end at (word bytes) e = absurd (by (nat_lt MAX_NAME_BYTES (length bytes)) e)
  where
    by : (long : Bool) → end_by at bytes (if long then Err LongId else Ok tt) ≡ Err Ended → ⊥
    by true e = cc
    by false e = cc
end-end at the_end e = refl
end-end at l e = absurd cc

-- where an item of a list or its Close is wanted, only the end of the text is told as ended too soon
pub list-end : (names : List (List ℕ)) (l : Lexeme) → list_head names l ≡ Err Ended → l ≡ the_end
list-end names (word bytes) e = absurd (by (nat_lt MAX_NAME_BYTES (length bytes)) (is_among names bytes) e)
  where
    by : (long old : Bool) → named bytes (if long then Err LongId else if old then Err Twice else Ok tt) ≡ Err Ended → ⊥
    by true old e = cc
    by false true e = cc
    by false false e = cc
list-end names the_end e = refl
list-end names l e = absurd cc

-- what a bracket is in the nodes, by whether a name waits
abbrev opened : Bool → Result (Option NodeItem) Complaint
opened b = if b then Ok (Some node_items.Place) else Err (Unexpected wants.Name)

-- where a node, its place or a Close is wanted, only the end of the text is told as ended too soon
pub node-end : (s : NodeList) (l : Lexeme) → node_head s l ≡ Err Ended → l ≡ the_end
node-end s (word bytes) e = absurd (by (nat_lt MAX_NAME_BYTES (length bytes)) (is_among s.names bytes) e)
  where
    by : (long old : Bool) → node_named bytes (if long then Err LongId else if old then Err Twice else Ok tt) ≡ Err Ended → ⊥
    by true old e = cc
    by false true e = cc
    by false false e = cc
node-end s open_bracket e = absurd (by (is_some s.pending) e)
  where
    by : (b : Bool) → opened b ≡ Err Ended → ⊥
    by true e = cc
    by false e = cc
node-end s the_end e = refl
node-end s l e = absurd cc

-- where a module or a Close is wanted, only the end of the text is told as ended too soon
pub module-end : (l : Lexeme) → module_head l ≡ Err Ended → l ≡ the_end
module-end (word bytes) e = absurd (by (decimal_of bytes 6) e)
  where
    by : (o : Result ℕ NumberFault) → module_begun (numbered o) ≡ Err Ended → ⊥
    by (Ok n) e = cc
    by (Err f) e = cc
module-end the_end e = refl
module-end l e = absurd cc

sized-end : (before : ℕ) (bytes : List ℕ) (o : Result ℕ NumberFault) → kept bytes (sized before o) ≡ Err Ended → ⊥
sized-end before bytes (Ok n) e = cc
sized-end before bytes (Err number_faults.Finer) e = cc
sized-end before bytes (Err number_faults.TooLarge) e = cc
sized-end before bytes (Err (number_faults.NotANumber at)) e = cc

kept-end : (bytes : List ℕ) → kept bytes (checked_coordinate bytes) ≡ Err Ended → ⊥
kept-end [] e = sized-end 0 [] (decimal_of [] 6) e
kept-end (byte ∷ bytes) e = by (is_sign byte) e
  where
    by : (b : Bool) → kept (byte ∷ bytes) (if b then sized 1 (decimal_of bytes 6) else sized 0 (decimal_of (byte ∷ bytes) 6)) ≡ Err Ended → ⊥
    by true e = sized-end 1 (byte ∷ bytes) (decimal_of bytes 6) e
    by false e = sized-end 0 (byte ∷ bytes) (decimal_of (byte ∷ bytes) 6) e

-- where a coordinate is wanted, only the end of the text is told as ended too soon
pub coordinate-end : (l : Lexeme) → coordinate_test l ≡ Err Ended → l ≡ the_end
coordinate-end (word bytes) e = absurd (kept-end bytes e)
coordinate-end the_end e = refl
coordinate-end l e = absurd cc

-- where a hop limit is wanted, only the end of the text is told as ended too soon
pub hops-end : (l : Lexeme) → hops_test l ≡ Err Ended → l ≡ the_end
hops-end (word bytes) e = absurd (by (pointwise nat_eq bytes (codes "UNLIMITED")) (decimal_of bytes 0) e)
  where
    by : (b : Bool) (o : Result ℕ NumberFault) → (if b then Ok None else limited (numbered o)) ≡ Err Ended → ⊥
    by true o e = cc
    by false (Ok n) e = cc
    by false (Err f) e = cc
hops-end the_end e = refl
hops-end l e = absurd cc

-- where a section is wanted, only the end of the text is told as ended too soon
pub section-end : (d : Draft) (l : Lexeme) → section_head d l ≡ Err Ended → l ≡ the_end
section-end d (word bytes) e = absurd (by-section (section_named bytes) e)
  where
    by-once : (b : Bool) (k : Section) → once b k ≡ Err Ended → ⊥
    by-once true k e = cc
    by-once false k e = cc

    by-section : (o : Option Section) → section_begun d o ≡ Err Ended → ⊥
    by-section None e = cc
    by-section (Some k) e = by-once (has_section d k) k e
section-end d the_end e = refl
section-end d l e = absurd cc
