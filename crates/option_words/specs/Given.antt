-- What the words behind a command give.
use Rattle.std.specs.Prelude.{ℕ, ◌==◌, ◌&&◌, List, [], ◌∷◌, ◌++◌, map, Option, Some, None, Bool, true, not, if◌then◌else◌, option_map, option_and_then, find, Vec}
use Rattle.std.specs.List.{list_all, list_any, before_first, after_first}
use Rattle.std.specs.Str.{bytes_eq}
use Rattle.std.specs.Borrow.{Bor}

-- the bytes of a word
abbrev pub Word : Type 0
Word = List ℕ

-- a name or an option, and the word that it is given
abbrev pub Use : Type 0
Use = Word × Word

-- ---- one word

-- what a word looks like
pub data Part : Type 0 where
  -- no more than one byte, or one that does not begin with `-`
  name : Part
  -- `--`
  ending : Part
  -- `--`, what the option is called, and perhaps `=` and a value
  option : Word → Option Word → Part
  -- `-` and more
  other : Part

-- the byte is `=`
abbrev pub is_equals : ℕ → Bool
is_equals byte = byte == 61

-- what stands behind two dashes
abbrev pub behind_dashes : Word → Part
behind_dashes [] = ending
behind_dashes (first ∷ rest) = option (before_first is_equals (first ∷ rest)) (if list_any is_equals (first ∷ rest) then Some (after_first is_equals (first ∷ rest)) else None)

-- what a word looks like; 45 is `-`
abbrev pub part_of : Word → Part
part_of [] = name
part_of (first ∷ []) = name
part_of (first ∷ second ∷ rest) = if first == 45 then if second == 45 then behind_dashes rest else other else name

-- ---- the words in turn

-- one use more at the head
abbrev pub with_use : Use → Option (List Use) → Option (List Use)
with_use u = option_map (λ uses. u ∷ uses)

-- the word is given to the first of the names that are left
abbrev pub name_given : List Word → Word → (List Word → Option (List Use)) → Option (List Use)
name_given [] word next = None
name_given (id ∷ names) word next = with_use (id, word) (next names)

-- the words are given to the names in turn
abbrev pub names_given : List Word → List Word → Option (List Use)
names_given [] names = Some []
names_given (word ∷ rest) names = name_given names word (names_given rest)

-- the option is given the value that is in its word, or awaits one
abbrev pub option_given : Option Word → Option Word → (Option Word → Option (List Use)) → Option (List Use)
option_given None value next = None
option_given (Some id) None next = next (Some id)
option_given (Some id) (Some value) next = with_use (id, value) (next None)

-- what a word and those behind it give, where an option awaits its value or none does
abbrev pub part_given : List Word → List Word → Option Word → Part → Word → List Word → (List Word → Option Word → Option (List Use)) → Option (List Use)
part_given options names None name word rest next = name_given names word (λ more. next more None)
part_given options names None ending word rest next = names_given rest names
part_given options names None (option called value) word rest next = option_given (find (λ o. bytes_eq o called) options) value (next names)
part_given options names None other word rest next = None
part_given options names (Some id) name word rest next = with_use (id, word) (next names None)
part_given options names (Some id) _ word rest next = None

-- no option awaits its value
abbrev pub nothing_more : Option Word → Option (List Use)
nothing_more None = Some []
nothing_more (Some id) = None

-- what the words give to these options and to the names that are left
abbrev pub given : List Word → List Word → List Word → Option Word → Option (List Use)
given options [] names awaits = nothing_more awaits
given options (word ∷ rest) names awaits = part_given options names awaits (part_of word) word rest (given options rest)

-- ---- all of it

-- no two words are the same
abbrev pub are_different : List Word → Bool
are_different [] = true
are_different (id ∷ more) = not (list_any (bytes_eq id) more) && are_different more

-- this is given a word
abbrev pub has : Word → List Use → Bool
has id uses = list_any (λ u. bytes_eq u.0 id) uses

-- nothing is given a word twice, nor one that was seen
abbrev pub all_new : List Use → List Use → Bool
all_new seen [] = true
all_new seen (u ∷ us) = not (has u.0 seen) && all_new (seen ++ u ∷ []) us

-- each of these is given a word
abbrev pub all_given : List Word → List Use → Bool
all_given ids uses = list_all (λ id. has id uses) ids

-- the word that this is given
abbrev pub value_of : List Use → Word → Option Word
value_of uses id = option_map (λ u. u.1) (find (λ u. bytes_eq u.0 id) uses)

-- the words that these are given, in turn, where each name is given one and nothing two
abbrev pub whole : List Word → List Word → List Use → Option (List (Option Word))
whole names options uses = if all_new [] uses && all_given names uses then Some (map (value_of uses) (names ++ options)) else None

-- what the words give to the names and then to the options, in turn, where they can be read so
abbrev pub told : List Word → List Word → List Word → Option (List (Option Word))
told names options words = option_and_then (whole names options) (given options words names None)

-- ---- of the code

-- the word behind a reference, where there is one
abbrev pub word_now : Option (Bor Word) → Option Word
word_now = option_map (λ word. word.now)

-- the words behind the references
abbrev pub given_now : {Z : Type 0} → Option (Vec (Option (Bor Word)) Z) → Option (List (Option Word))
given_now = option_map (λ found. map word_now found.items)
