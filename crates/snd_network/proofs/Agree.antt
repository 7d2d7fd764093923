-- The tests of single tokens find what the grammar says of them.
use Rattle.std.proofs.Common.{◌≡◌, ◌≢◌, ℕ, ◌+◌, ◌<◌, ◌≤◌, Bool, true, false, nat_lt, nat_eq, List, [], ◌∷◌, ◌++◌, length, take, drop, Option, Some, None, refl, sym, ap, subst, ◌∙◌, inl, inr, arith, codes}
use Rattle.std.specs.Prelude.{◌↔◌, Result, Ok, Err, is_some, if◌then◌else◌}
use Rattle.std.specs.Int.{IsInRange}
use Rattle.std.specs.Cmp.Lexicographic.{pointwise, bytes_decides}
use Rattle.std.specs.Str.Parse.{AllDigits}
use Rattle.std.proofs.lemmas.Bool.{ltb-true, ltb-false, le-ltb}
use Rattle.std.proofs.lemmas.Bool.Decides.{nat_tests}
use Rattle.std.proofs.lemmas.List.{take-append-drop}
use Rattle.std.proofs.lemmas.Str.Parse.{digit_at}
use Rattle.scaled_numbers.specs.declared.fault.NumberFault.{NumberFault}
use Rattle.scaled_numbers.specs.declared.fault.NumberFault.TheVariants as number_faults
use Rattle.scaled_numbers.specs.Decimal.{Numeral, point_text, exponent_text, Spells, IsRead}
use Rattle.scaled_numbers.specs.Scanning.{decimal_of, run}
use Rattle.scaled_numbers.proofs.Deciding.{reads, faults}
use Rattle.snd_reader.specs.declared.fault.Complaint.{Complaint}
use Rattle.snd_reader.specs.declared.fault.Complaint.TheVariants.{Unexpected, Twice, LongId, Ended}
use Rattle.snd_reader.specs.declared.fault.Wanted.TheVariants as wants
use Rattle.snd_reader.specs.Readers.{Lexeme, word, open_bracket, close_bracket, the_end, Placed}
use Rattle.snd_reader.specs.Tests.{open_test, close_test, numbered, number_test}
use Rattle.snd_reader.specs.Names.{is_among}
use Rattle.snd_network.specs.declared.draft.End.{End}
use Rattle.snd_network.specs.declared.draft.NodeItem.{NodeItem}
use Rattle.snd_network.specs.declared.draft.NodeItem.TheVariants as node_items
use Rattle.snd_network.specs.declared.draft.NodeList.{NodeList}
use Rattle.snd_network.specs.declared.draft.Named.{Named}
use Rattle.snd_network.specs.declared.draft.Table.{Table}
use Rattle.snd_network.specs.declared.draft.Draft.{Draft}
use Rattle.snd_network.specs.declared.draft.Section.{Section}
use Rattle.snd_network.specs.declared.draft.Section.TheVariants.{Nodes, Links, Demands, Meta, Paths}
use Rattle.snd_network.specs.declared.limits.TheConstants.{MAX_NAME_BYTES}
use Rattle.snd_network.specs.Names.{IsNewName, checked_length, checked_name}
use Rattle.snd_network.specs.Tests.{end_by, end_at, end_test, named, list_head, node_named, node_head, module_begun, module_head, is_sign, sized, checked_coordinate, kept, coordinate_test, limited, hops_test, section_named, has_section, once, section_begun, is_complete, section_head}
use Rattle.snd_network.specs.Grammar.{IsNumeral, IsEndName, SpellsNumber, SpellsSigned, IsSignedWord, IsLimitWord, BeginsNode, BeginsModule, BeginsItem, section_name, BeginsSection}
use Rattle.snd_network.proofs.NameLists.{other_name}

-- ---- brackets

-- the test of an opening bracket finds exactly these good
pub open_same : (t : Placed) (u : Unit {0}) → (open_test t.is ≡ Ok u) ↔ (t.is ≡ open_bracket)
open_same t u = (into t.is, λ e. ap open_test e)
  where
    into : (l : Lexeme) → open_test l ≡ Ok u → l ≡ open_bracket
    into open_bracket e = refl
    into l e = absurd cc

-- the test of a closing bracket finds exactly these good
pub close_same : (t : Placed) (u : Unit {0}) → (close_test t.is ≡ Ok u) ↔ (t.is ≡ close_bracket)
close_same t u = (into t.is, λ e. ap close_test e)
  where
    into : (l : Lexeme) → close_test l ≡ Ok u → l ≡ close_bracket
    into close_bracket e = refl
    into l e = absurd cc

-- ---- numbers

-- bytes that are read as a number spell it
pub is_read : (bytes : List ℕ) (scale n : ℕ) → decimal_of bytes scale ≡ Ok n → IsRead bytes scale n
is_read bytes scale n e = (reads bytes scale (decimal_of bytes scale) refl n).0 e

reads_as : (bytes : List ℕ) (scale n : ℕ) → IsRead bytes scale n → decimal_of bytes scale ≡ Ok n
reads_as bytes scale n h = (reads bytes scale (decimal_of bytes scale) refl n).1 h

numbered-into : (bytes : List ℕ) (scale n : ℕ) (r : Result ℕ NumberFault) → decimal_of bytes scale ≡ r → numbered r ≡ Ok n → IsRead bytes scale n
numbered-into bytes scale n (Ok m) d e = let same : m ≡ n = cc in is_read bytes scale n (d ∙ ap (λ (k : ℕ). Ok k) same)
numbered-into bytes scale n (Err f) d e = absurd cc

number-into : (scale : ℕ) (t : Placed) (l : Lexeme) (n : ℕ) → t.is ≡ l → number_test scale l ≡ Ok n → IsNumeral scale t n
number-into scale t (word bytes) n h e = (bytes, h, numbered-into bytes scale n (decimal_of bytes scale) refl e)
number-into scale t l n h e = absurd cc

number-back : (scale : ℕ) (t : Placed) (n : ℕ) → IsNumeral scale t n → number_test scale t.is ≡ Ok n
number-back scale t n (bytes, h, k) = ap (number_test scale) h ∙ ap numbered (reads_as bytes scale n k)

-- the test of a number finds exactly the words that spell it
pub number_same : (scale : ℕ) (t : Placed) (n : ℕ) → (number_test scale t.is ≡ Ok n) ↔ IsNumeral scale t n
number_same scale t n = (number-into scale t t.is n refl, number-back scale t n)

-- ---- ends

-- a name of at most 64 bytes passes the check of its length
pub short_name : (bytes : List ℕ) → length bytes ≤ MAX_NAME_BYTES → checked_length bytes ≡ Ok tt
short_name bytes h = rw (le-ltb MAX_NAME_BYTES (length bytes) h) refl

abbrev end_of : ℕ → List ℕ → End
end_of at name = record { at = at; name = name }

abbrev found_end : ℕ → List ℕ → Result End Complaint
found_end at name = Ok (end_of at name)

end-into : (t : Placed) (l : Lexeme) (e : End) → t.is ≡ l → end_at t.at l ≡ Ok e → IsEndName t e
end-into t (word bytes) e h a = by (nat_lt MAX_NAME_BYTES (length bytes)) refl a
  where
    by : (long : Bool) → nat_lt MAX_NAME_BYTES (length bytes) ≡ long → end_by t.at bytes (if long then Err LongId else Ok tt) ≡ Ok e → IsEndName t e
    by true n a = absurd cc
    by false n a =
        let same : end_of t.at bytes ≡ e = cc in
        subst (λ (d : End). IsEndName t d) same (h, refl, ltb-false MAX_NAME_BYTES (length bytes) n)
end-into t l e h a = absurd cc

end-back : (t : Placed) (e : End) → IsEndName t e → end_test t ≡ Ok e
end-back t e (h, place, short) = ap (end_at t.at) h ∙ ap (end_by t.at e.name) (short_name e.name short) ∙ ap (λ (at : ℕ). found_end at e.name) place

-- the test of an end finds exactly the names of at most 64 bytes
pub end_same : (t : Placed) (e : End) → (end_test t ≡ Ok e) ↔ IsEndName t e
end_same t e = (end-into t t.is e refl, end-back t e)

-- ---- coordinates

sized-into : (before : ℕ) (bytes : List ℕ) (u : Unit {0}) (r : Result ℕ NumberFault) → decimal_of bytes 6 ≡ r → sized before r ≡ Ok u → SpellsNumber bytes
sized-into before bytes u (Ok n) d e = let k = is_read bytes 6 n d in (k.spelt.numeral, k.spelt.spells)
sized-into before bytes u (Err number_faults.Finer) d e = let k = (faults bytes 6 (decimal_of bytes 6) refl number_faults.Finer).0 d in (k.numeral, k.spells)
sized-into before bytes u (Err number_faults.TooLarge) d e = let k = (faults bytes 6 (decimal_of bytes 6) refl number_faults.TooLarge).0 d in (k.spelt.numeral, k.spelt.spells)
sized-into before bytes u (Err (number_faults.NotANumber at)) d e = absurd cc

no-misfit : (bytes : List ℕ) (at : ℕ) → decimal_of bytes 6 ≡ Err (number_faults.NotANumber at) → SpellsNumber bytes → ⊥
no-misfit bytes at d (n, s) =
    let k = (faults bytes 6 (decimal_of bytes 6) refl (number_faults.NotANumber at)).0 d in
    by (nat_lt at (length bytes)) refl k.byte k.end k.within
  where
    by : (b : Bool) → nat_lt at (length bytes) ≡ b → (at < length bytes → ((more : List ℕ) × (m : Numeral) × Spells (take (at + 1) bytes ++ more) m) → ⊥) → (at ≡ length bytes → (m : Numeral) → Spells bytes m → ⊥) → at ≤ length bytes → ⊥
    by true b byte end within = byte (ltb-true at (length bytes) b) (drop (at + 1) bytes, n, subst (λ (all : List ℕ). Spells all n) (sym (take-append-drop (at + 1) bytes)) s)
    by false b byte end within = let past = ltb-false at (length bytes) b in end (omega (arith, past, within)) n s

sized-back : (before : ℕ) (bytes : List ℕ) → SpellsNumber bytes → sized before (decimal_of bytes 6) ≡ Ok tt
sized-back before bytes s = by (decimal_of bytes 6) refl
  where
    by : (r : Result ℕ NumberFault) → decimal_of bytes 6 ≡ r → sized before r ≡ Ok tt
    by (Ok n) d = refl
    by (Err number_faults.Finer) d = refl
    by (Err number_faults.TooLarge) d = refl
    by (Err (number_faults.NotANumber at)) d = absurd (no-misfit bytes at d s)

no-sign : (byte : ℕ) → IsInRange 48 57 byte → is_sign byte ≡ false
no-sign byte h = grind (arith, nat_tests)

unsigned : (byte : ℕ) (bytes : List ℕ) (n : Numeral) → Spells (byte ∷ bytes) n → is_sign byte ≡ false
unsigned byte bytes n s = by n.whole n.point n.fraction (exponent_text n.power) s.number.whole s.number.some s.number.no_point s.bytes
  where
    by : (whole : List ℕ) (point : Bool) (fraction power : List ℕ) → AllDigits 10 whole → 0 < length whole + length fraction → (point ≡ false → fraction ≡ []) → byte ∷ bytes ≡ whole ++ (point_text point ++ (fraction ++ power)) → is_sign byte ≡ false
    by (d ∷ whole) point fraction power digits some bare e =
        let same : byte ≡ d = cc in
        ap is_sign same ∙ no-sign d (digit_at (d ∷ whole) 0 digits (omega arith))
    by [] true fraction power digits some bare e = let same : byte ≡ 46 = cc in ap is_sign same
    by [] false fraction power digits some bare e = absurd (omega (arith, some, ap length (bare refl)))

abbrev signed_by : List ℕ → List ℕ → Bool → Result (Unit {0}) Complaint
signed_by bytes all b = if b then sized 1 (decimal_of bytes 6) else sized 0 (decimal_of all 6)

checked-into : (bytes : List ℕ) (u : Unit {0}) → checked_coordinate bytes ≡ Ok u → SpellsSigned bytes
checked-into [] u e = inl (sized-into 0 [] u (decimal_of [] 6) refl e)
checked-into (byte ∷ bytes) u e = by (is_sign byte) refl e
  where
    by : (b : Bool) → is_sign byte ≡ b → signed_by bytes (byte ∷ bytes) b ≡ Ok u → SpellsSigned (byte ∷ bytes)
    by true s e = inr (byte, bytes, refl, s, sized-into 1 bytes u (decimal_of bytes 6) refl e)
    by false s e = inl (sized-into 0 (byte ∷ bytes) u (decimal_of (byte ∷ bytes) 6) refl e)

unsigned-back : (bytes : List ℕ) → SpellsNumber bytes → checked_coordinate bytes ≡ Ok tt
unsigned-back [] s = sized-back 0 [] s
unsigned-back (byte ∷ bytes) (n, s) = ap (signed_by bytes (byte ∷ bytes)) (unsigned byte bytes n s) ∙ sized-back 0 (byte ∷ bytes) (n, s)

checked-back : (bytes : List ℕ) → SpellsSigned bytes → checked_coordinate bytes ≡ Ok tt
checked-back bytes (inl s) = unsigned-back bytes s
checked-back bytes (inr (sign, digits, e, is, s)) = ap checked_coordinate e ∙ ap (signed_by digits (sign ∷ digits)) is ∙ sized-back 1 digits s

-- the check of a coordinate finds exactly the numbers of any size with at most one sign in front
pub checked_same : (bytes : List ℕ) → (checked_coordinate bytes ≡ Ok tt) ↔ SpellsSigned bytes
checked_same bytes = (checked-into bytes tt, checked-back bytes)

coordinate-into : (t : Placed) (l : Lexeme) (x : List ℕ) → t.is ≡ l → coordinate_test l ≡ Ok x → IsSignedWord t x
coordinate-into t (word bytes) x h e = by (checked_coordinate bytes) refl e
  where
    by : (r : Result (Unit {0}) Complaint) → checked_coordinate bytes ≡ r → kept bytes r ≡ Ok x → IsSignedWord t x
    by (Ok u) d e = let same : bytes ≡ x = cc in subst (IsSignedWord t) same (h, checked-into bytes u d)
    by (Err c) d e = absurd cc
coordinate-into t l x h e = absurd cc

coordinate-back : (t : Placed) (x : List ℕ) → IsSignedWord t x → coordinate_test t.is ≡ Ok x
coordinate-back t x (h, s) = ap coordinate_test h ∙ ap (kept x) (checked-back x s)

-- the test of a coordinate finds exactly the words of such numbers
pub coordinate_same : (t : Placed) (x : List ℕ) → (coordinate_test t.is ≡ Ok x) ↔ IsSignedWord t x
coordinate_same t x = (coordinate-into t t.is x refl, coordinate-back t x)

-- ---- hop limits

unlimited-none : (n : ℕ) → decimal_of (codes "UNLIMITED") 0 ≡ Ok n → ⊥
unfolding decimal_of run
unlimited-none n h = cc

hops-into : (t : Placed) (l : Lexeme) (x : Option ℕ) → t.is ≡ l → hops_test l ≡ Ok x → IsLimitWord t x
hops-into t (word bytes) x h e = by (pointwise nat_eq bytes (codes "UNLIMITED")) refl (number_test 0 (word bytes)) refl x e
  where
    by : (b : Bool) → pointwise nat_eq bytes (codes "UNLIMITED") ≡ b → (r : Result ℕ Complaint) → number_test 0 (word bytes) ≡ r → (x : Option ℕ) → (if b then Ok None else limited r) ≡ Ok x → IsLimitWord t x
    by true same r d None e = h ∙ ap word ((bytes_decides bytes (codes "UNLIMITED")).0 same)
    by true same r d (Some n) e = absurd cc
    by false other (Ok m) d None e = absurd cc
    by false other (Ok m) d (Some n) e = let same : m ≡ n = cc in number-into 0 t (word bytes) n h (d ∙ ap (λ (k : ℕ). Ok k) same)
    by false other (Err c) d x e = absurd cc
hops-into t l x h e = absurd cc

abbrev hops_by : List ℕ → Bool → Result (Option ℕ) Complaint
hops_by bytes b = if b then Ok None else limited (number_test 0 (word bytes))

hops-back : (t : Placed) (x : Option ℕ) → IsLimitWord t x → hops_test t.is ≡ Ok x
hops-back t None h = ap hops_test h
hops-back t (Some n) (bytes, h, k) =
    let read = reads_as bytes 0 n k in
    let differs : bytes ≢ codes "UNLIMITED" = λ e. unlimited-none n (ap (λ (b : List ℕ). decimal_of b 0) (sym e) ∙ read) in
    ap hops_test h ∙ ap (hops_by bytes) (other_name bytes (codes "UNLIMITED") differs) ∙ ap (λ (r : Result ℕ NumberFault). limited (numbered r)) read

-- the test of a hop limit finds exactly `UNLIMITED` and whole numbers
pub hops_same : (t : Placed) (x : Option ℕ) → (hops_test t.is ≡ Ok x) ↔ IsLimitWord t x
hops_same t x = (hops-into t t.is x refl, hops-back t x)

-- ---- modules

module-into : (modules : List (ℕ × ℕ)) (t : Placed) (l : Lexeme) (x : Option ℕ) → t.is ≡ l → module_head l ≡ Ok x → BeginsModule modules t x
module-into modules t (word bytes) x h e = by (number_test 6 (word bytes)) refl x e
  where
    by : (r : Result ℕ Complaint) → number_test 6 (word bytes) ≡ r → (x : Option ℕ) → module_begun r ≡ Ok x → BeginsModule modules t x
    by (Ok m) d None e = absurd cc
    by (Ok m) d (Some n) e = let same : m ≡ n = cc in number-into 6 t (word bytes) n h (d ∙ ap (λ (k : ℕ). Ok k) same)
    by (Err c) d x e = absurd cc
module-into modules t close_bracket None h e = h
module-into modules t close_bracket (Some n) h e = absurd cc
module-into modules t l x h e = absurd cc

module-back : (modules : List (ℕ × ℕ)) (t : Placed) (x : Option ℕ) → BeginsModule modules t x → module_head t.is ≡ Ok x
module-back modules t None h = ap module_head h
module-back modules t (Some n) (bytes, h, k) = ap module_head h ∙ ap (λ (r : Result ℕ NumberFault). module_begun (numbered r)) (reads_as bytes 6 n k)

-- between modules the test finds exactly capacities and the Close
pub module_same : (modules : List (ℕ × ℕ)) (t : Placed) (x : Option ℕ) → (module_head t.is ≡ Ok x) ↔ BeginsModule modules t x
module_same modules t x = (module-into modules t t.is x refl, module-back modules t x)

-- ---- names

new-name : (names : List (List ℕ)) (bytes : List ℕ) → IsNewName names bytes → checked_name names bytes ≡ Ok tt
new-name names bytes h = rw (le-ltb MAX_NAME_BYTES (length bytes) h.0, h.1) refl

checked-new : (names : List (List ℕ)) (bytes : List ℕ) (u : Unit {0}) → checked_name names bytes ≡ Ok u → IsNewName names bytes
checked-new names bytes u e = by (nat_lt MAX_NAME_BYTES (length bytes)) (is_among names bytes) refl refl e
  where
    by : (long old : Bool) → nat_lt MAX_NAME_BYTES (length bytes) ≡ long → is_among names bytes ≡ old → (if long then Err LongId else if old then Err Twice else Ok tt) ≡ Ok u → IsNewName names bytes
    by true old a b e = absurd cc
    by false true a b e = absurd cc
    by false false a b e = (ltb-false MAX_NAME_BYTES (length bytes) a, b)

item-into : {T : Type 0} (s : Table (Named T)) (t : Placed) (l : Lexeme) (x : Option (List ℕ)) → t.is ≡ l → list_head s.names l ≡ Ok x → BeginsItem s t x
item-into {T} s t (word bytes) x h e = by (checked_name s.names bytes) refl x e
  where
    by : (r : Result (Unit {0}) Complaint) → checked_name s.names bytes ≡ r → (x : Option (List ℕ)) → named bytes r ≡ Ok x → BeginsItem s t x
    by (Ok u) c None e = absurd cc
    by (Ok u) c (Some name) e = let same : bytes ≡ name = cc in subst (λ (b : List ℕ). BeginsItem s t (Some b)) same (h, checked-new s.names bytes u c)
    by (Err y) c x e = absurd cc
item-into s t close_bracket None h e = h
item-into s t close_bracket (Some name) h e = absurd cc
item-into s t l x h e = absurd cc

item-back : {T : Type 0} (s : Table (Named T)) (t : Placed) (x : Option (List ℕ)) → BeginsItem s t x → list_head s.names t.is ≡ Ok x
item-back s t None h = ap (list_head s.names) h
item-back s t (Some name) (h, new) = ap (list_head s.names) h ∙ ap (named name) (new-name s.names name new)

-- between items the test finds exactly new names and the Close
pub item_same : {T : Type 0} (s : Table (Named T)) (t : Placed) (x : Option (List ℕ)) → (list_head s.names t.is ≡ Ok x) ↔ BeginsItem s t x
item_same s t x = (item-into s t t.is x refl, item-back s t x)

-- ---- nodes

abbrev opened : Bool → Result (Option NodeItem) Complaint
opened b = if b then Ok (Some node_items.Place) else Err (Unexpected wants.Name)

node-into : (s : NodeList) (t : Placed) (l : Lexeme) (x : Option NodeItem) → t.is ≡ l → node_head s l ≡ Ok x → BeginsNode s t x
node-into s t (word bytes) x h e = by (checked_name s.names bytes) refl x e
  where
    by : (r : Result (Unit {0}) Complaint) → checked_name s.names bytes ≡ r → (x : Option NodeItem) → node_named bytes r ≡ Ok x → BeginsNode s t x
    by (Ok u) c None e = absurd cc
    by (Ok u) c (Some i) e = let same : node_items.Name bytes ≡ i = cc in subst (λ (j : NodeItem). BeginsNode s t (Some j)) same (h, checked-new s.names bytes u c)
    by (Err y) c x e = absurd cc
node-into s t open_bracket x h e = by (is_some s.pending) refl x e
  where
    by : (b : Bool) → is_some s.pending ≡ b → (x : Option NodeItem) → opened b ≡ Ok x → BeginsNode s t x
    by true waits None e = absurd cc
    by true waits (Some i) e = let same : node_items.Place ≡ i = cc in subst (λ (j : NodeItem). BeginsNode s t (Some j)) same (h, waits)
    by false waits x e = absurd cc
node-into s t close_bracket None h e = h
node-into s t close_bracket (Some i) h e = absurd cc
node-into s t l x h e = absurd cc

node-back : (s : NodeList) (t : Placed) (x : Option NodeItem) → BeginsNode s t x → node_head s t.is ≡ Ok x
node-back s t None h = ap (node_head s) h
node-back s t (Some (node_items.Name bytes)) (h, new) = ap (node_head s) h ∙ ap (node_named bytes) (new-name s.names bytes new)
node-back s t (Some node_items.Place) (h, waits) = ap (node_head s) h ∙ ap opened waits

-- between nodes the test finds exactly new names, the Open of a place and the Close
pub node_same : (s : NodeList) (t : Placed) (x : Option NodeItem) → (node_head s t.is ≡ Ok x) ↔ BeginsNode s t x
node_same s t x = (node-into s t t.is x refl, node-back s t x)

-- ---- sections

named-into : (bytes : List ℕ) (k : Section) → section_named bytes ≡ Some k → bytes ≡ section_name k
named-into bytes k e = by (pointwise nat_eq bytes (codes "NODES")) (pointwise nat_eq bytes (codes "LINKS")) (pointwise nat_eq bytes (codes "DEMANDS")) (pointwise nat_eq bytes (codes "META")) (pointwise nat_eq bytes (codes "ADMISSIBLE_PATHS")) refl refl refl refl refl e
  where
    found : (name : List ℕ) (j : Section) → pointwise nat_eq bytes name ≡ true → name ≡ section_name j → j ≡ k → bytes ≡ section_name k
    found name j b n same = (bytes_decides bytes name).0 b ∙ n ∙ ap section_name same

    by : (a b c d f : Bool) → pointwise nat_eq bytes (codes "NODES") ≡ a → pointwise nat_eq bytes (codes "LINKS") ≡ b → pointwise nat_eq bytes (codes "DEMANDS") ≡ c → pointwise nat_eq bytes (codes "META") ≡ d → pointwise nat_eq bytes (codes "ADMISSIBLE_PATHS") ≡ f
        → (if a then Some Nodes else if b then Some Links else if c then Some Demands else if d then Some Meta else if f then Some Paths else None) ≡ Some k → bytes ≡ section_name k
    by true b c d f p q r s u e = found (codes "NODES") Nodes p refl cc
    by false true c d f p q r s u e = found (codes "LINKS") Links q refl cc
    by false false true d f p q r s u e = found (codes "DEMANDS") Demands r refl cc
    by false false false true f p q r s u e = found (codes "META") Meta s refl cc
    by false false false false true p q r s u e = found (codes "ADMISSIBLE_PATHS") Paths u refl cc
    by false false false false false p q r s u e = absurd cc

name-found : (k : Section) → section_named (section_name k) ≡ Some k
name-found Nodes = refl
name-found Links = refl
name-found Demands = refl
name-found Meta = refl
name-found Paths = refl

abbrev ending : Bool → Result (Option Section) Complaint
ending b = if b then Ok None else Err Ended

section-into : (d : Draft) (t : Placed) (l : Lexeme) (x : Option Section) → t.is ≡ l → section_head d l ≡ Ok x → BeginsSection d t x
section-into d t (word bytes) x h e = by (section_named bytes) refl x e
  where
    by-once : (k : Section) (b : Bool) → section_named bytes ≡ Some k → has_section d k ≡ b → (x : Option Section) → once b k ≡ Ok x → BeginsSection d t x
    by-once k true n new x e = absurd cc
    by-once k false n new None e = absurd cc
    by-once k false n new (Some j) e = let same : k ≡ j = cc in subst (λ (i : Section). BeginsSection d t (Some i)) same (h ∙ ap word (named-into bytes k n), new)

    by : (s : Option Section) → section_named bytes ≡ s → (x : Option Section) → section_begun d s ≡ Ok x → BeginsSection d t x
    by None n x e = absurd cc
    by (Some k) n x e = by-once k (has_section d k) n refl x e
section-into d t the_end x h e = by (is_complete d) refl x e
  where
    by : (b : Bool) → is_complete d ≡ b → (x : Option Section) → ending b ≡ Ok x → BeginsSection d t x
    by true complete None e = (h, complete)
    by true complete (Some k) e = absurd cc
    by false complete x e = absurd cc
section-into d t l x h e = absurd cc

section-back : (d : Draft) (t : Placed) (x : Option Section) → BeginsSection d t x → section_head d t.is ≡ Ok x
section-back d t None (h, complete) = ap (section_head d) h ∙ ap ending complete
section-back d t (Some k) (h, new) = ap (section_head d) h ∙ ap (section_begun d) (name-found k) ∙ ap (λ (b : Bool). once b k) new

-- between sections the test finds exactly the names of new sections, and the end of the text where all is there
pub section_same : (d : Draft) (t : Placed) (x : Option Section) → (section_head d t.is ≡ Ok x) ↔ BeginsSection d t x
section_same d t x = (section-into d t t.is x refl, section-back d t x)
