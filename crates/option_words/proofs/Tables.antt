-- The table of a line with names and options, and what clap reads by it.
use Rattle.std.proofs.Common.{◌≡◌, ◌∙◌, ◌+◌, ◌<◌, ◌≤◌, ◌&&◌, ◌||◌, ◌==◌, ℕ, Bool, true, false, not, refl, sym, ap, arith, subst, List, [], ◌∷◌, ◌++◌, map, length, min, Option, Some, None, append_assoc, take, get_or, if◌then◌else◌, is_some}
use Rattle.std.specs.Prelude.{option_map, option_and_then, unwrap_or, find, count_by}
use Rattle.std.specs.List.{All, list_all, list_any}
use Rattle.std.specs.Option.{option_map_or}
use Rattle.std.specs.Str.{bytes_eq}
use Rattle.std.proofs.lemmas.Slice.Eq.{bytes_eq-Decides}
use Rattle.std.proofs.lemmas.Bool.Decides.{Decides-eqb}
use Rattle.std.proofs.lemmas.List.{map-append, take_more}
use Rattle.std.specs.Borrow.{Bor}
use Rattle.clap.specs.Lexer.{usize_max}
use Rattle.clap.specs.Kinds.{Kinds}
use Rattle.clap.specs.Walk.{Row, Rule, Text, arg_by_id, arg_by_index, arg_by_long, arg_by_short, has_long, is_early_multiple, first_of, rows_after, rows_of, nothing_held, walk}
use Rattle.clap.specs.Simple.{App, built, filled_from, matches_of, entered, on_top, with_rule}
use Rattle.clap.specs.Faults.{fault_of, level_fault, entered_fault, is_simple_and_free}
use Rattle.clap.specs.Matches.{first_value}
use Rattle.clap.specs.declared.parser.matches.Found.{Found}
use Rattle.clap.proofs.WalkLemmas.{first_value-rows}
use Rattle.option_words.specs.Given.{Use, Word, given, has, are_different, all_new, all_given, value_of, whole, told}
use Rattle.option_words.specs.Line.{option_rule, name_rule, line_app, with_rules, rows_unless, rows_read}
use Rattle.option_words.proofs.Walks.{use_row, got, plain, IsTable, Long, Places, Reads, s}
use Rattle.option_words.proofs.Levels.{NoDefaults, complete, lacks, once, once_rows, given_has, first_value as first_given}

-- ---- words and tests

-- where both of two tests hold, each does
pub and-true : (a b : Bool) → (a && b) ≡ true → (a ≡ true) × (b ≡ true)
and-true true b is = (refl, is)
and-true false b is = absurd cc

-- a test whose negation holds fails
pub not-any : (b : Bool) → not b ≡ true → b ≡ false
not-any true is = absurd cc
not-any false is = refl

-- words that compare as equal are equal
pub same_words : (a b : Word) → bytes_eq a b ≡ true → a ≡ b
same_words a b = (bytes_eq-Decides a b).0

itself : (a : Word) → bytes_eq a a ≡ true
itself a = (bytes_eq-Decides a a).1 refl

-- ---- the table

abbrev option_plain : Text → Rule
option_plain id = plain id (Some id) None false

abbrev name_plain : ℕ → Text → Rule
name_plain place id = plain id None (Some place) true

-- the names, from this place on
abbrev names_from : ℕ → List Text → List Rule
names_from place [] = []
names_from place (id ∷ more) = name_plain place id ∷ names_from (min (place + 1) usize_max) more

-- the options, and then the names
abbrev table : List Text → List Text → List Rule
table names [] = names_from 1 names
table names (o ∷ options) = option_plain o ∷ table names options

-- what is handed to clap
abbrev handed : List Text → List Text → List Rule
handed names options = map option_rule options ++ map name_rule names

-- clap fills in what was left out
filled_names : (place : ℕ) (names : List Text) → filled_from place (map name_rule names) ≡ names_from place names
filled_names place [] = refl
filled_names place (id ∷ more) = ap (λ rest. name_plain place id ∷ rest) (filled_names (min (place + 1) usize_max) more)

filled_is : (names options : List Text) → filled_from 1 (handed names options) ≡ table names options
filled_is names [] = filled_names 1 names
filled_is names (o ∷ options) = ap (λ rest. option_plain o ∷ rest) (filled_is names options)

names_ids : (place : ℕ) (names : List Text) → map (λ (r : Rule). r.id) (names_from place names) ≡ names
names_ids place [] = refl
names_ids place (id ∷ more) = ap (λ rest. id ∷ rest) (names_ids (min (place + 1) usize_max) more)

table_ids : (names options : List Text) → map (λ (r : Rule). r.id) (table names options) ≡ options ++ names
table_ids names [] = names_ids 1 names
table_ids names (o ∷ options) = ap (λ rest. o ∷ rest) (table_ids names options)

-- ---- what is found in a table of different ids is found by its id

some_rule : (a b : Rule) → Some a ≡ Some b → a ≡ b
some_rule a b is = ap (λ o. unwrap_or o a) is

not-found : (id : Text) (c : List Rule) (test : Rule → Bool) (a : Rule) → list_any (bytes_eq id) (map (λ (r : Rule). r.id) c) ≡ false → find test c ≡ Some a → bytes_eq id a.id ≡ false
not-found id [] test a apart is = absurd cc
not-found id (b ∷ rest) test a apart is = go (test b) (bytes_eq id b.id) refl apart is (not-found id rest test a)
  where
    go : (t d : Bool) → bytes_eq id b.id ≡ d → (d || list_any (bytes_eq id) (map (λ (r : Rule). r.id) rest)) ≡ false → (if t then Some b else find test rest) ≡ Some a
        → (list_any (bytes_eq id) (map (λ (r : Rule). r.id) rest) ≡ false → find test rest ≡ Some a → bytes_eq id a.id ≡ false) → bytes_eq id a.id ≡ false
    go t true same bad is more = absurd cc
    go true false same apart is more = subst (λ (r : Rule). bytes_eq id r.id ≡ false) (some_rule b a is) same
    go false false same apart is more = more apart is

found_again : (c : List Rule) (test : Rule → Bool) (a : Rule) → are_different (map (λ (r : Rule). r.id) c) ≡ true → find test c ≡ Some a → arg_by_id c a.id ≡ Some a
found_again [] test a different is = absurd cc
found_again (b ∷ rest) test a different is =
    let parts : (not (list_any (bytes_eq b.id) (map (λ (r : Rule). r.id) rest)) ≡ true) × (are_different (map (λ (r : Rule). r.id) rest) ≡ true) = and-true _ _ different in
    go (test b) is (not-any _ parts.0) (found_again rest test a parts.1)
  where
    go : (t : Bool) → (if t then Some b else find test rest) ≡ Some a → list_any (bytes_eq b.id) (map (λ (r : Rule). r.id) rest) ≡ false → (find test rest ≡ Some a → arg_by_id rest a.id ≡ Some a)
        → arg_by_id (b ∷ rest) a.id ≡ Some a
    go true is apart more = subst (λ (r : Rule). (if bytes_eq b.id r.id then Some b else arg_by_id rest r.id) ≡ Some r) (some_rule b a is) (rw (itself b.id) refl)
    go false is apart more = rw (not-found b.id rest test a apart is) (more is)

-- ---- what the walk asks of the table

-- an option is found by what it is called
names_not_long : (place : ℕ) (names : List Text) (called : Text) → arg_by_long (names_from place names) called ≡ None
names_not_long place [] called = refl
names_not_long place (id ∷ more) called = names_not_long (min (place + 1) usize_max) more called

long_is : (names options : List Text) (called : Text) → arg_by_long (table names options) called ≡ option_map option_plain (find (λ o. bytes_eq o called) options)
long_is names [] called = names_not_long 1 names called
long_is names (o ∷ options) called = go (bytes_eq o called) (long_is names options called)
  where
    go : (b : Bool) → arg_by_long (table names options) called ≡ option_map option_plain (find (λ o. bytes_eq o called) options)
        → (if b || false then Some (option_plain o) else arg_by_long (table names options) called) ≡ option_map option_plain (if b then Some o else find (λ o. bytes_eq o called) options)
    go true is = refl
    go false is = is

names_no_short : (place : ℕ) (names : List Text) (x : ℕ) → arg_by_short (names_from place names) x ≡ None
names_no_short place [] x = refl
names_no_short place (id ∷ more) x = names_no_short (min (place + 1) usize_max) more x

no_short : (names options : List Text) (x : ℕ) → arg_by_short (table names options) x ≡ None
no_short names [] x = names_no_short 1 names x
no_short names (o ∷ options) x = no_short names options x

-- a name is found by its place
by_place : (names options : List Text) (place : ℕ) → arg_by_index (table names options) place ≡ arg_by_index (names_from 1 names) place
by_place names [] place = refl
by_place names (o ∷ options) place = by_place names options place

here : (place : ℕ) (id : Text) (more : List Text) → arg_by_index (names_from place (id ∷ more)) place ≡ Some (name_plain place id)
here place id more = let same : (place == place) ≡ true = (Decides-eqb place place).1 refl in rw same refl

later : (place : ℕ) (id : Text) (more : List Text) (i : ℕ) → place < i → arg_by_index (names_from place (id ∷ more)) i ≡ arg_by_index (names_from (min (place + 1) usize_max) more) i
later place id more i less = go (place == i) (Decides-eqb place i).0
  where
    go : (b : Bool) → (b ≡ true → place ≡ i) → (if b then Some (name_plain place id) else arg_by_index (names_from (min (place + 1) usize_max) more) i) ≡ arg_by_index (names_from (min (place + 1) usize_max) more) i
    go true same = absurd (let is : place ≡ i = same refl in omega (arith, is, less))
    go false same = refl

places_from : (c : List Rule) → are_different (map (λ (r : Rule). r.id) c) ≡ true → (place : ℕ) (names : List Text) → place + length names ≤ usize_max
    → ((i : ℕ) → place ≤ i → arg_by_index c i ≡ arg_by_index (names_from place names) i) → Places c place names
places_from c different place [] fits same = same place (omega arith)
places_from c different place (id ∷ more) fits same =
    let is : arg_by_index c place ≡ Some (name_plain place id) = same place (omega arith) ∙ here place id more in
    let next : place < min (place + 1) usize_max = omega (arith, fits) in (
      record { long = None; index = Some place; required = true; is = is; found = found_again c (λ a. option_map_or (λ k. k == place) a.index false) (name_plain place id) different is; same = itself id },
      places_from c different (min (place + 1) usize_max) more (omega (arith, fits)) (λ i from. same i (omega (arith, next, from)) ∙ later place id more i (omega (arith, next, from))),
    )

names_default : (place : ℕ) (names : List Text) → NoDefaults (names_from place names)
names_default place [] = tt
names_default place (id ∷ more) = (refl, names_default (min (place + 1) usize_max) more)

no_defaults : (names options : List Text) → NoDefaults (table names options)
no_defaults names [] = names_default 1 names
no_defaults names (o ∷ options) = (refl, no_defaults names options)

-- what lacks are the names that are not given
names_lacking : (place : ℕ) (names : List Text) (uses : List Use) → lacks (names_from place names) (map use_row uses) ≡ not (all_given names uses)
names_lacking place [] uses = refl
names_lacking place (id ∷ more) uses = rw (given_has id uses, names_lacking (min (place + 1) usize_max) more uses) (go (has id uses) (all_given more uses))
  where
    go : (a b : Bool) → (not a || not b) ≡ not (a && b)
    go true b = refl
    go false b = refl

lacking : (names options : List Text) (uses : List Use) → lacks (table names options) (map use_row uses) ≡ not (all_given names uses)
lacking names [] uses = names_lacking 1 names uses
lacking names (o ∷ options) uses = lacking names options uses

-- ---- the line is simple

handed_names : (names : List Text) → list_all (λ (a : Rule). a.is_simple) (map name_rule names) ≡ true
handed_names [] = refl
handed_names (id ∷ more) = handed_names more

handed_simple : (names options : List Text) → list_all (λ (a : Rule). a.is_simple) (handed names options) ≡ true
handed_simple names [] = handed_names names
handed_simple names (o ∷ options) = handed_simple names options

-- what passes a test as an option or a name passes it in the table
names_pass : (test : Rule → Bool) → ((place : ℕ) (id : Text) → test (name_plain place id) ≡ true) → (place : ℕ) (names : List Text) → list_all test (names_from place names) ≡ true
names_pass test name place [] = refl
names_pass test name place (id ∷ more) = rw (name place id, names_pass test name (min (place + 1) usize_max) more) refl

table_passes : (test : Rule → Bool) → ((id : Text) → test (option_plain id) ≡ true) → ((place : ℕ) (id : Text) → test (name_plain place id) ≡ true) → (names options : List Text) → list_all test (table names options) ≡ true
table_passes test option name names [] = names_pass test name 1 names
table_passes test option name names (o ∷ options) = rw (option o, table_passes test option name names options) refl

names_single : (n place : ℕ) (names : List Text) → list_any (is_early_multiple n) (names_from place names) ≡ false
names_single n place [] = refl
names_single n place (id ∷ more) = names_single n (min (place + 1) usize_max) more

table_single : (n : ℕ) (names options : List Text) → list_any (is_early_multiple n) (table names options) ≡ false
table_single n names [] = names_single n 1 names
table_single n names (o ∷ options) = table_single n names options

-- the tests of a simple line, by what they come to
all_pass : (a b early c : Bool) → a ≡ true → b ≡ true → early ≡ false → c ≡ true → (((a && true) && ((b && not early) && true)) && (c && true)) ≡ true
all_pass a b early c first second third fourth = rw (first, second, third, fourth) refl

-- a line of names and options is one that clap's simple rules cover
pub line_is_simple : (names options : List Text) (line : App) → line ≡ line_app names options → is_simple_and_free line ≡ true
line_is_simple names options line is =
    ap is_simple_and_free is
    ∙ all_pass _ _ _ _ (handed_simple names options) (ap (list_all (λ (a : Rule). a.is_simple)) (filled_is names options) ∙ table_passes (λ (a : Rule). a.is_simple) (λ id. refl) (λ place id. refl) names options)
    (ap (list_any (is_early_multiple (count_by (λ (a : Rule). is_some a.index) (filled_from 1 (handed names options))))) (filled_is names options) ∙ table_single _ names options)
    (ap (list_all (λ (a : Rule). a.is_free)) (filled_is names options) ∙ table_passes (λ (a : Rule). a.is_free) (λ id. refl) (λ place id. refl) names options)

-- ---- what is read by the line

-- there is no subcommand
no_stop : (a : App) → a.subs ≡ [] → (words : List Text) (stop : Option (Text × List Text))
    → level_fault a.top [] nothing_held words (is_some (entered a stop)) (entered_fault a stop) ≡ level_fault a.top [] nothing_held words false []
no_stop a none words None = refl
no_stop a none words (Some p) = rw none refl

same_got : (ks : Kinds) (rows : List Row) → rows_unless ks rows ≡ got ks rows
same_got [] rows = refl
same_got (k ∷ ks) rows = refl

same_map : (f g : Text → Option Text) → ((id : Text) → f id ≡ g id) → (ids : List Text) → map f ids ≡ map g ids
same_map f g same [] = refl
same_map f g same (id ∷ ids) = rw (same id, same_map f g same ids) refl

-- the words that the rows have for names and options
abbrev by_rows : List Text → List Text → List Row → List (Option Text)
by_rows names options rows = map (λ id. first_of id rows) names ++ map (λ id. first_of id rows) options

module _ (names options : List Text) (different : are_different (options ++ names) ≡ true) (few : length names < usize_max) where
  ids_differ : are_different (map (λ (r : Rule). r.id) (table names options)) ≡ true
  ids_differ = ap are_different (table_ids names options) ∙ different

  is_table : IsTable (table names options) options
  is_table = record {
    long = λ called. go (arg_by_long (table names options) called) (find (λ o. bytes_eq o called) options) (long_is names options called) (λ a is. found_again (table names options) (λ r. not (is_some r.index) && has_long r called) a ids_differ is);
    no_short = no_short names options;
  }
    where
      go : (o : Option Rule) (f : Option Text) → o ≡ option_map option_plain f → ((a : Rule) → o ≡ Some a → arg_by_id (table names options) a.id ≡ Some a) → Long (table names options) o f
      go o None is again = is
      go o (Some id) is again = record { long = Some id; index = None; required = false; is = is; found = again (option_plain id) is; same = itself id }

  places : Places (table names options) 1 names
  places = places_from (table names options) ids_differ 1 names (omega (arith, few)) (λ i from. by_place names options i)

  line_rows : (words : List Text) → All Reads words
      → rows_read (line_app names options) words ≡ option_and_then (complete (table names options)) (option_map (map use_row) (option_and_then once (given options words names None)))
  line_rows words reads =
      let app : App = line_app names options in
      same_got (fault_of app words) (matches_of app words)
      ∙ ap (λ ks. got ks (matches_of app words)) (no_stop (built app) refl words (walk (built app).top.rules [] nothing_held words).stopped)
      ∙ subst (λ (c : List Rule). got (level_fault (s (built app).top c) [] nothing_held words false []) (rows_after c [] words) ≡ option_and_then (complete (table names options)) (option_map (map use_row) (option_and_then once (given options words names None))))
      (sym (filled_is names options))
      (once_rows (built app).top (table names options) (no_defaults names options) refl refl options names is_table places words reads)

  -- what lacks nothing, and gives nothing twice, is whole
  whole_rows : (r : Option (List Use)) → option_map (by_rows names options) (option_and_then (complete (table names options)) (option_map (map use_row) (option_and_then once r))) ≡ option_and_then (whole names options) r
  whole_rows None = refl
  whole_rows (Some uses) = go (all_new [] uses)
    where
      words_same : by_rows names options (map use_row uses) ≡ map (value_of uses) (names ++ options)
      words_same =
          rw (same_map (λ id. first_of id (map use_row uses)) (value_of uses) (first_given uses) names, same_map (λ id. first_of id (map use_row uses)) (value_of uses) (first_given uses) options)
          (sym (map-append (value_of uses) names options))

      by_given : (lack all : Bool) → lack ≡ not all
          → option_map (by_rows names options) (if lack then None else Some (map use_row uses)) ≡ (if all then Some (map (value_of uses) (names ++ options)) else None)
      by_given true true is = absurd cc
      by_given false true is = ap (λ found. Some found) words_same
      by_given true false is = refl
      by_given false false is = absurd cc

      go : (new : Bool) → option_map (by_rows names options) (option_and_then (complete (table names options)) (option_map (map use_row) (if new then Some uses else None)))
          ≡ (if new && all_given names uses then Some (map (value_of uses) (names ++ options)) else None)
      go true = by_given (lacks (table names options) (map use_row uses)) (all_given names uses) (lacking names options uses)
      go false = refl

  -- what was found by the line is what the words give
  pub told_is : (line : App) (found : Option Found) (words : List Text) → All Reads words → line ≡ line_app names options → option_map rows_of found ≡ rows_read line words
      → option_map (λ f. map (first_value f) names ++ map (first_value f) options) found ≡ told names options words
  told_is line found words reads is rows =
      by found ∙ ap (option_map (by_rows names options)) (rows ∙ ap (λ a. rows_read a words) is ∙ line_rows words reads) ∙ whole_rows (given options words names None)
    where
      by : (found : Option Found) → option_map (λ f. map (first_value f) names ++ map (first_value f) options) found ≡ option_map (by_rows names options) (option_map rows_of found)
      by None = refl
      by (Some f) =
          rw (same_map (first_value f) (λ id. first_of id (rows_of f)) (first_value-rows f) names, same_map (first_value f) (λ id. first_of id (rows_of f)) (first_value-rows f) options) refl

-- ---- lines in the making

-- a line with one rule more
pub rules_more : (make : Text → Rule) (line : App) (ids : List Text) (id : Text) → with_rule (with_rules line (map make ids)) (make id) ≡ with_rules line (map make (ids ++ id ∷ []))
rules_more make line ids id =
    ap (λ rules. on_top (λ s. record s { rules = rules }) line)
    (append_assoc line.top.rules (map make ids) (make id ∷ []) ∙ ap (λ rules. line.top.rules ++ rules) (sym (map-append make ids (id ∷ []))))

-- a line with one rule more, where those before it stand in it
pub line_more : (make : Text → Rule) (start before after : App) (ids : List (Bor Text)) (place : ℕ) (id : Bor Text) → place < length ids
    → before ≡ with_rules start (map make (map (λ word. word.now) (take place ids))) → after ≡ with_rule before (make (get_or ids place id).now)
    → after ≡ with_rules start (map make (map (λ word. word.now) (take (place + 1) ids)))
line_more make start before after ids place id inside is_before is_after =
    is_after ∙ ap (λ line. with_rule line (make (get_or ids place id).now)) is_before
    ∙ rules_more make start (map (λ word. word.now) (take place ids)) (get_or ids place id).now
    ∙ ap (λ words. with_rules start (map make words)) (sym (ap (map (λ (word : Bor Text). word.now)) (take_more ids place id inside) ∙ map-append (λ (word : Bor Text). word.now) (take place ids) (get_or ids place id ∷ [])))
