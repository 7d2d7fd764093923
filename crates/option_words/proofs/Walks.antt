-- clap's walk over the words of a command with names and options is what `given` says.
use Rattle.std.proofs.Common.{◌≡◌, ◌∙◌, ◌+◌, ◌&&◌, ◌||◌, ◌==◌, ℕ, Bool, true, false, not, refl, sym, ap, List, [], ◌∷◌, ◌++◌, map, min, Option, Some, None, append-nil, append_assoc, if◌then◌else◌}
use Rattle.std.specs.Prelude.{option_map, find, fold, slice_get}
use Rattle.std.specs.Option.{option_map_or}
use Rattle.std.proofs.lemmas.List.Elements.{All-head, All-tail}
use Rattle.std.specs.List.{All}
use Rattle.std.specs.Str.{bytes_eq, chars}
use Rattle.clap.specs.Lexer.{usize_max, long_of, short_of}
use Rattle.clap.specs.Walk.{Held, Row, Rule, Text, Waiting, Walk, idle, option as waits_for, arg_by_id, arg_by_index, arg_by_long, arg_by_short, settled, settled_rows, pushed, to_positional, value, after_flag, after_step, long_met, used, has_row, walked, with_values, more_values, without}
use Rattle.clap.specs.Simple.{Shape}
use Rattle.clap.specs.Kinds.{Kinds, or_else}
use Rattle.clap.specs.Faults.{settle_fault, step_fault, long_fault, flags_fault, bundle_fault, turn_fault, use_fault, walk_fault}
use Rattle.clap.specs.declared.error.kind.ErrorKind.TheVariants as kind
use Rattle.clap.specs.declared.builder.action.ArgAction.TheVariants.{Set}
use Rattle.clap.specs.declared.builder.value_parser.ValueParser.TheVariants as vp
use Rattle.clap.specs.declared.builder.value_parser.Reading.TheVariants.{AsWritten}
use Rattle.clap.specs.declared.parser.matches.ValueSource.TheVariants.{CommandLine}
use Rattle.option_words.specs.Given.{Use, Part, name, ending, option, other, part_of, behind_dashes, with_use, name_given, names_given, option_given, part_given, given, has, all_new}

-- ---- what is held

-- what one use becomes among clap's rows
abbrev pub use_row : Use → Row
use_row u = record { id = u.0; values = u.1 ∷ []; count = None; source = Some CommandLine; reading = AsWritten }

-- the rule of a name or an option without abbreviations or defaults
abbrev pub plain : Text → Option Text → Option ℕ → Bool → Rule
plain id long index required = record {
  id = id;
  long = long;
  aliases = [];
  short = None;
  short_aliases = [];
  index = index;
  action = Some Set;
  range = Some (record { start_inclusive = 1; end_inclusive = 1 });
  value_names = 0;
  defaults = [];
  missing = [];
  trailing_var_arg = false;
  parser = Some vp.String;
  ignore_case = false;
  required = required;
  is_simple = true;
  is_free = true;
}

-- the use that still waits, as clap holds it
abbrev pub pending_use : Option Use → Option (Text × List Text)
pending_use = option_map (λ u. (u.0, u.1 ∷ []))

-- these rows and what is pending, with nothing to skip
abbrev pub held : List Row → Option (Text × List Text) → Held
held rows pending = record { rows = rows; pending = pending; skip = 0 }

-- where clap's walk stands
abbrev pub walk_at : List Row → Option (Text × List Text) → Waiting → ℕ → Bool → Walk
walk_at rows pending waiting position trailing = record { held = held rows pending; waiting = waiting; position = position; is_trailing = trailing; stopped = None }

-- where the walk stands after these uses, with no option open
abbrev pub state : List Use → Option Use → ℕ → Bool → Walk
state us p position trailing = walk_at (map use_row us) (pending_use p) idle position trailing

-- where the walk stands when an option waits for its value
abbrev pub awaiting : List Use → Text → ℕ → Bool → Walk
awaiting us id position trailing = walk_at (map use_row us) (Some (id, [])) (waits_for id) position trailing

-- ---- outcomes

-- the rows, where there is no fault
abbrev pub got : Kinds → List Row → Option (List Row)
got [] rows = Some rows
got (k ∷ ks) rows = None

-- what comes next, where there is no fault
abbrev pub got_next : Kinds → Option (List Row) → Option (List Row)
got_next [] next = next
got_next (k ∷ ks) next = None

-- what clap holds after the last word
abbrev pub end_of : Shape → Walk → List Text → Held
end_of s w words = (fold (walked s.rules []) w words).held

-- the rows at the end, where nothing fails
abbrev pub outcome : Shape → Walk → List Text → Option (List Row)
outcome s w words = got (or_else (walk_fault s [] w words) (settle_fault s.rules s.args_override_self (end_of s w words))) (settled_rows s.rules (end_of s w words).pending (end_of s w words).rows)

one_more : (t f g : Kinds) (rows : List Row) → got (or_else (or_else t f) g) rows ≡ got_next t (got (or_else f g) rows)
one_more [] f g rows = refl
one_more (k ∷ ks) f g rows = refl

outcome_step : (s : Shape) (w : Walk) (word : Text) (rest : List Text) → outcome s w (word ∷ rest) ≡ got_next (turn_fault s [] w word) (outcome s (walked s.rules [] w word) rest)
unfolding walk_fault
outcome_step s w word rest = one_more (turn_fault s [] w word) _ _ _

next_or : (a b : Kinds) (o : Option (List Row)) → got_next (or_else a b) o ≡ got_next a (got_next b o)
next_or [] b o = refl
next_or (k ∷ ks) b o = refl

as_next : (a : Kinds) (rows : List Row) → got a rows ≡ got_next a (Some rows)
as_next [] rows = refl
as_next (k ∷ ks) rows = refl

-- ---- what is expected

-- the rows that are expected: those of all uses, where none is given twice
abbrev pub expect : List Use → Option (List Use) → Option (List Row)
expect us None = None
expect us (Some more) = if all_new us more then Some (map use_row (us ++ more)) else None

-- the use that waits and those behind it
abbrev pub with_pending : Option Use → List Use → List Use
with_pending None uses = uses
with_pending (Some u) uses = u ∷ uses

abbrev is_new : List Use → Option Use → Bool
is_new us None = true
is_new us (Some u) = not (has u.0 us)

abbrev after : List Use → Option Use → List Use
after us None = us
after us (Some u) = us ++ u ∷ []

expect_settled : (us : List Use) (p : Option Use) (r : Option (List Use)) → expect us (option_map (with_pending p) r) ≡ (if is_new us p then expect (after us p) r else None)
expect_settled us None None = refl
expect_settled us None (Some more) = refl
expect_settled us (Some u) None = go (has u.0 us)
  where
    go : (b : Bool) → ◌≡◌ {A = Option (List Row)} None (if not b then None else None)
    go true = refl
    go false = refl
expect_settled us (Some u) (Some more) = go (has u.0 us) (ap (λ all. if all_new (us ++ u ∷ []) more then Some (map use_row all) else None) (sym (append_assoc us (u ∷ []) more)))
  where
    go : (b : Bool) → (if all_new (us ++ u ∷ []) more then Some (map use_row (us ++ u ∷ more)) else None) ≡ expect (us ++ u ∷ []) (Some more)
        → (if not b && all_new (us ++ u ∷ []) more then Some (map use_row (us ++ u ∷ more)) else None) ≡ (if not b then expect (us ++ u ∷ []) (Some more) else None)
    go true e = refl
    go false e = e

-- ---- one use

has-rows : (us : List Use) (id : Text) → has_row id (map use_row us) ≡ has id us
has-rows [] id = refl
has-rows (u ∷ us) id = ap (λ b. bytes_eq u.0 id || b) (has-rows us id)

kept : (us : List Use) (id : Text) → has id us ≡ false → without id (map use_row us) ≡ map use_row us
kept [] id none = refl
kept (u ∷ us) id none = go (bytes_eq u.0 id) none (kept us id)
  where
    go : (b : Bool) → (b || has id us) ≡ false → (has id us ≡ false → without id (map use_row us) ≡ map use_row us) → (if b then [] ++ map use_row us else use_row u ∷ without id (map use_row us)) ≡ use_row u ∷ map use_row us
    go true bad more = absurd cc
    go false none more = ap (λ rows. use_row u ∷ rows) (more none)

added : (us : List Use) (id v : Text) → has id us ≡ false → with_values id AsWritten CommandLine (v ∷ []) (map use_row us) ≡ map use_row (us ++ (id, v) ∷ [])
added [] id v none = refl
added (u ∷ us) id v none = go (bytes_eq u.0 id) none (added us id v)
  where
    go : (b : Bool) → (b || has id us) ≡ false → (has id us ≡ false → with_values id AsWritten CommandLine (v ∷ []) (map use_row us) ≡ map use_row (us ++ (id, v) ∷ []))
        → (if b then more_values CommandLine (v ∷ []) (use_row u) ++ map use_row us else use_row u ∷ with_values id AsWritten CommandLine (v ∷ []) (map use_row us)) ≡ use_row u ∷ map use_row (us ++ (id, v) ∷ [])
    go true bad more = absurd cc
    go false none more = ap (λ rows. use_row u ∷ rows) (more none)

used_row : (us : List Use) (id v : Text) (long : Option Text) (index : Option ℕ) (required : Bool) → has id us ≡ false → used (plain id long index required) (v ∷ []) (map use_row us) ≡ map use_row (us ++ (id, v) ∷ [])
used_row us id v long index required none = ap (with_values id AsWritten CommandLine (v ∷ [])) (kept us id none) ∙ added us id v none

-- a use fails where this was used before, and else is one row more
one_use : (us : List Use) (id v : Text) (long : Option Text) (index : Option ℕ) (required : Bool) (next : List Row → Option (List Row))
    → got_next (use_fault false (plain id long index required) (v ∷ []) (map use_row us)) (next (used (plain id long index required) (v ∷ []) (map use_row us)))
    ≡ (if is_new us (Some (id, v)) then next (map use_row (us ++ (id, v) ∷ [])) else None)
one_use us id v long index required next = go (has id us) (has-rows us id) (used_row us id v long index required)
  where
    go : (b : Bool) → has_row id (map use_row us) ≡ b → (b ≡ false → used (plain id long index required) (v ∷ []) (map use_row us) ≡ map use_row (us ++ (id, v) ∷ []))
        → got_next (use_fault false (plain id long index required) (v ∷ []) (map use_row us)) (next (used (plain id long index required) (v ∷ []) (map use_row us)))
        ≡ (if not b then next (map use_row (us ++ (id, v) ∷ [])) else None)
    go true is more = rw is refl
    go false is more = rw is (ap next (more refl))

-- ---- the table

-- this is an argument of the table, with this id
pub record Met (c : List Rule) (id : Text) (o : Option Rule) : Type 0 where
  pub long : Option Text
  pub index : Option ℕ
  pub required : Bool
  pub is : o ≡ Some (plain id long index required)
  pub found : arg_by_id c id ≡ Some (plain id long index required)
  pub same : bytes_eq id id ≡ true

-- the names from this place on
abbrev pub Places : List Rule → ℕ → List Text → Type 0
Places c position [] = arg_by_index c position ≡ None
Places c position (id ∷ more) = Met c id (arg_by_index c position) × Places c (min (position + 1) usize_max) more

-- the option that is called so
abbrev pub Long : List Rule → Option Rule → Option Text → Type 0
Long c o None = o ≡ None
Long c o (Some id) = Met c id o

-- the table of a command with these options, called by their long names alone
pub record IsTable (c : List Rule) (options : List Text) : Type 0 where
  pub long : (called : Text) → Long c (arg_by_long c called) (find (λ o. bytes_eq o called) options)
  pub no_short : (x : ℕ) → arg_by_short c x ≡ None

-- what is pending is an argument of the table
abbrev pub Pends : List Rule → Option Use → Type 0
Pends c None = Unit {0}
Pends c (Some u) = Met c u.0 (arg_by_id c u.0)

-- what is pending is used
settled_next : (c : List Rule) (us : List Use) (p : Option Use) → Pends c p → (next : List Row → Option (List Row))
    → got_next (settle_fault c false (held (map use_row us) (pending_use p))) (next (settled_rows c (pending_use p) (map use_row us)))
    ≡ (if is_new us p then next (map use_row (after us p)) else None)
settled_next c us None pends next = refl
settled_next c us (Some u) pends next = rw pends.found (one_use us u.0 u.1 pends.long pends.index pends.required next)

-- ---- what a word looks like

-- what clap makes of a word, by what it looks like
abbrev pub Looks : Text → Part → Type 0
Looks word name = (bytes_eq word (45 ∷ 45 ∷ []) ≡ false) × (long_of word ≡ None) × (short_of word ≡ None)
Looks word ending = bytes_eq word (45 ∷ 45 ∷ []) ≡ true
Looks word (option called inside) = (bytes_eq word (45 ∷ 45 ∷ []) ≡ false) × (long_of word ≡ Some (called, inside))
Looks word other = (bytes_eq word (45 ∷ 45 ∷ []) ≡ false) × (long_of word ≡ None) × (first : ℕ) × (rest : Text) × (short_of word ≡ Some (first ∷ rest))

looks : (word : Text) → Looks word (part_of word)
looks [] = (refl, refl, refl)
looks (a ∷ []) = go (a == 45) refl
  where
    go : (b : Bool) → (a == 45) ≡ b → Looks (a ∷ []) name
    go true is = (rw is refl, rw is refl, rw is refl)
    go false is = (rw is refl, rw is refl, rw is refl)
looks (a ∷ b ∷ rest) = go (a == 45) (b == 45) refl refl
  where
    dashed : (rest : Text) → (a == 45) ≡ true → (b == 45) ≡ true → Looks (a ∷ b ∷ rest) (behind_dashes rest)
    dashed [] one two = rw (one, two) refl
    dashed (x ∷ xs) one two = (rw (one, two) refl, rw (one, two) refl)

    go : (x y : Bool) → (a == 45) ≡ x → (b == 45) ≡ y → Looks (a ∷ b ∷ rest) (if a == 45 then if b == 45 then behind_dashes rest else other else name)
    go true true one two = rw (one, two) (dashed rest one two)
    go true false one two = rw (one, two) (rw (one, two) refl, rw (one, two) refl, b, rest, rw (one, two) refl)
    go false y one two = rw one (rw one refl, rw one refl, rw one refl)

-- the first character of what stands behind a dash
abbrev pub Reads : Text → Type 0
Reads word = (flags : Text) → short_of word ≡ Some flags → (x : ℕ) × (slice_get (chars flags) 0 ≡ Some x)

-- ---- the walk

same_map : (r : Option (List Use)) → option_map (with_pending None) r ≡ r
same_map None = refl
same_map (Some more) = refl

module _ (base : Shape) (c : List Rule) where
  -- the shape of a command that has this table and no subcommands
  abbrev pub s : Shape
  s = record base { rules = c; args_override_self = false; is_leaf = true }

  -- no word is left
  at_end : (us : List Use) (p : Option Use) → Pends c p → (waiting : Waiting) (position : ℕ) (trailing : Bool)
      → outcome s (walk_at (map use_row us) (pending_use p) waiting position trailing) [] ≡ expect us (option_map (with_pending p) (Some []))
  unfolding walk_fault
  at_end us p pends waiting position trailing =
      as_next _ _ ∙ settled_next c us p pends (λ rows. Some rows)
      ∙ ap (λ all. if is_new us p then Some (map use_row all) else None) (sym (append-nil (after us p)))
      ∙ sym (expect_settled us p (Some []))

  -- the word goes to the name at the place
  place_step : (us : List Use) (p : Option Use) → Pends c p → (position : ℕ) (names : List Text) → Places c position names → (word : Text) (trailing : Bool)
      (next : Walk → Option (List Row)) (more : List Text → Option (List Use))
      → ((id : Text) (left : List Text) → Met c id (arg_by_id c id) → Places c (min (position + 1) usize_max) left
      → next (state (after us p) (Some (id, word)) (min (position + 1) usize_max) (trailing || false)) ≡ expect (after us p) (option_map (with_pending (Some (id, word))) (more left)))
      → got_next (step_fault s position (held (map use_row us) (pending_use p)) value) (next (to_positional c (arg_by_index c position) word (state us p position trailing) (held (map use_row us) (pending_use p))))
      ≡ expect us (option_map (with_pending p) (name_given names word more))
  place_step us p pends position [] places word trailing next more goes = rw places refl
  place_step us p pends position (id ∷ left) places word trailing next more goes =
      let m = places.0 in
      rw m.is (go (option_map_or (λ q. bytes_eq q.0 id) (pending_use p) false)
      ∙ settled_next c us p pends (λ rows. next (walk_at rows (Some (id, word ∷ [])) idle (min (position + 1) usize_max) (trailing || false)))
      ∙ ap (λ o. if is_new us p then o else None) (goes id left (record { long = m.long; index = m.index; required = m.required; is = m.found; found = m.found; same = m.same }) places.1)
      ∙ sym (expect_settled us p (with_use (id, word) (more left))))
    where
      h : Held
      h = held (map use_row us) (pending_use p)

      go : (b : Bool) → got_next (if b && false then [] else settle_fault c false (held (map use_row us) (pending_use p)))
          (next (record { held = pushed id word (if b && false then held (map use_row us) (pending_use p) else settled c (held (map use_row us) (pending_use p))); waiting = idle; position = min (position + 1) usize_max; is_trailing = trailing || false; stopped = None }))
          ≡ got_next (settle_fault c false (held (map use_row us) (pending_use p))) (next (walk_at (settled_rows c (pending_use p) (map use_row us)) (Some (id, word ∷ [])) idle (min (position + 1) usize_max) (trailing || false)))
      go true = refl
      go false = refl

  -- behind `--` each word goes to a name
  trailing_words : (words : List Text) (us : List Use) (p : Option Use) → Pends c p → (position : ℕ) (names : List Text) → Places c position names
      → outcome s (state us p position true) words ≡ expect us (option_map (with_pending p) (names_given words names))
  unfolding walked
  trailing_words [] us p pends position names places = at_end us p pends idle position true
  trailing_words (word ∷ rest) us p pends position names places =
      outcome_step s (state us p position true) word rest
      ∙ place_step us p pends position names places word true (λ w. outcome s w rest) (names_given rest)
      (λ id left known more. trailing_words rest (after us p) (Some (id, word)) known (min (position + 1) usize_max) left more)

  -- an option that awaits its value behind `--` fails
  awaiting_fails : (us : List Use) (id : Text) → Met c id (arg_by_id c id) → (position : ℕ) (names : List Text) → Places c position names → (words : List Text)
      → outcome s (awaiting us id position true) words ≡ None
  unfolding walked walk_fault
  awaiting_fails us id m position names places [] = rw m.is refl
  awaiting_fails us id m position [] places (word ∷ rest) = outcome_step s (awaiting us id position true) word rest ∙ rw places refl
  awaiting_fails us id m position (other_id ∷ left) places (word ∷ rest) =
      outcome_step s (awaiting us id position true) word rest ∙ rw (places.0.is, m.is) (go (bytes_eq id other_id) _)
    where
      go : (b : Bool) (o : Option (List Row)) → got_next (if b && false then [] else kind.InvalidValue ∷ []) o ≡ None
      go true o = refl
      go false o = refl

  module _ (options : List Text) (table : IsTable c options) where
    -- what the walk over these words comes to
    pub record Follows (words : List Text) : Type 0 where
      pub idles : (us : List Use) (p : Option Use) → Pends c p → (position : ℕ) (names : List Text) → Places c position names
          → outcome s (state us p position false) words ≡ expect us (option_map (with_pending p) (given options words names None))
      pub waits : (us : List Use) (id : Text) → Met c id (arg_by_id c id) → (position : ℕ) (names : List Text) → Places c position names
          → outcome s (awaiting us id position false) words ≡ expect us (given options words names (Some id))

    no_words : Follows []
    unfolding walk_fault
    no_words = record {
      idles = λ us p pends position names places. at_end us p pends idle position false;
      waits = λ us id m position names places. rw m.is refl;
    }

    -- an option, by what its word says
    option_step : (rest : List Text) → Follows rest → (us : List Use) (p : Option Use) → Pends c p → (position : ℕ) (names : List Text) → Places c position names
        → (word called : Text) (inside : Option Text) (o : Option Rule) (f : Option Text) → Long c o f
        → got_next (or_else (long_fault c false o inside (held (map use_row us) (pending_use p)))
        (step_fault s position (after_flag c idle word (long_met c o inside (held (map use_row us) (pending_use p))).0 (long_met c o inside (held (map use_row us) (pending_use p))).1).0
        (after_flag c idle word (long_met c o inside (held (map use_row us) (pending_use p))).0 (long_met c o inside (held (map use_row us) (pending_use p))).1).1))
        (outcome s (after_step c word (state us p position false)
        (after_flag c idle word (long_met c o inside (held (map use_row us) (pending_use p))).0 (long_met c o inside (held (map use_row us) (pending_use p))).1).0
        (after_flag c idle word (long_met c o inside (held (map use_row us) (pending_use p))).0 (long_met c o inside (held (map use_row us) (pending_use p))).1).1) rest)
        ≡ expect us (option_map (with_pending p) (option_given f inside (given options rest names)))
    option_step rest follows us p pends position names places word called inside o None unknown = rw unknown refl
    option_step rest follows us p pends position names places word called None o (Some id) m =
        rw m.is (next_or (settle_fault c false (held (map use_row us) (pending_use p))) [] (outcome s (walk_at (settled_rows c (pending_use p) (map use_row us)) (Some (id, [])) (waits_for id) position false) rest)
        ∙ settled_next c us p pends (λ rows. outcome s (walk_at rows (Some (id, [])) (waits_for id) position false) rest)
        ∙ ap (λ x. if is_new us p then x else None) (follows.waits (after us p) id (known m) position names places)
        ∙ sym (expect_settled us p (given options rest names (Some id))))
      where
        known : Met c id o → Met c id (arg_by_id c id)
        known m = record { long = m.long; index = m.index; required = m.required; is = m.found; found = m.found; same = m.same }
    option_step rest follows us p pends position names places word called (Some v) o (Some id) m =
        rw m.is (next_or (or_else (settle_fault c false (held (map use_row us) (pending_use p))) (use_fault false (plain id m.long m.index m.required) (v ∷ []) (settled_rows c (pending_use p) (map use_row us))))
        [] (outcome s (walk_at (used (plain id m.long m.index m.required) (v ∷ []) (settled_rows c (pending_use p) (map use_row us))) None idle position false) rest)
        ∙ next_or (settle_fault c false (held (map use_row us) (pending_use p))) (use_fault false (plain id m.long m.index m.required) (v ∷ []) (settled_rows c (pending_use p) (map use_row us)))
        (outcome s (walk_at (used (plain id m.long m.index m.required) (v ∷ []) (settled_rows c (pending_use p) (map use_row us))) None idle position false) rest)
        ∙ settled_next c us p pends (λ rows. got_next (use_fault false (plain id m.long m.index m.required) (v ∷ []) rows) (outcome s (walk_at (used (plain id m.long m.index m.required) (v ∷ []) rows) None idle position false) rest))
        ∙ ap (λ x. if is_new us p then x else None) (one_use (after us p) id v m.long m.index m.required (λ rows. outcome s (walk_at rows None idle position false) rest)
        ∙ ap (λ x. if is_new (after us p) (Some (id, v)) then x else None) (follows.idles (after us p ++ (id, v) ∷ []) None tt position names places ∙ ap (expect (after us p ++ (id, v) ∷ [])) (same_map (given options rest names None)))
        ∙ sym (expect_settled (after us p) (Some (id, v)) (given options rest names None)))
        ∙ sym (expect_settled us p (with_use (id, v) (given options rest names None))))

    -- a word that is no option of the table, and begins with one dash, fails
    bundle_fails : (first : ℕ) (tail : Text) (h : Held) → h.skip ≡ 0 → (x : ℕ) × (slice_get (chars (first ∷ tail)) 0 ≡ Some x) → bundle_fault c false (first ∷ tail) h ≡ kind.UnknownArgument ∷ []
    unfolding flags_fault
    bundle_fails first tail h none read = rw (none, read.1, table.no_short read.0) refl

    -- one word more, by what it looks like
    part_idles : (rest : List Text) → Follows rest → (us : List Use) (p : Option Use) → Pends c p → (position : ℕ) (names : List Text) → Places c position names
        → (word : Text) (part : Part) → Looks word part → Reads word
        → got_next (turn_fault s [] (state us p position false) word) (outcome s (walked c [] (state us p position false) word) rest)
        ≡ expect us (option_map (with_pending p) (part_given options names None part word rest (given options rest)))
    unfolding walked
    part_idles rest follows us p pends position names places word name l reads =
        rw (l.0, l.1, l.2) (place_step us p pends position names places word false (λ w. outcome s w rest) (λ more. given options rest more None)
        (λ id left known more. follows.idles (after us p) (Some (id, word)) known (min (position + 1) usize_max) left more))
    part_idles rest follows us p pends position names places word ending l reads =
        rw l (trailing_words rest us p pends position names places)
    part_idles rest follows us p pends position names places word (option called inside) l reads =
        rw (l.0, l.1) (option_step rest follows us p pends position names places word called inside (arg_by_long c called) (find (λ o. bytes_eq o called) options) (table.long called))
    part_idles rest follows us p pends position names places word other l reads =
        let fails : bundle_fault c false (l.2 ∷ l.3) (held (map use_row us) (pending_use p)) ≡ kind.UnknownArgument ∷ [] = bundle_fails l.2 l.3 (held (map use_row us) (pending_use p)) refl (reads (l.2 ∷ l.3) l.4) in
        rw (l.0, l.1, l.4, fails) refl

    part_waits : (rest : List Text) → Follows rest → (us : List Use) (id : Text) → Met c id (arg_by_id c id) → (position : ℕ) (names : List Text) → Places c position names
        → (word : Text) (part : Part) → Looks word part → Reads word
        → got_next (turn_fault s [] (awaiting us id position false) word) (outcome s (walked c [] (awaiting us id position false) word) rest)
        ≡ expect us (part_given options names (Some id) part word rest (given options rest))
    unfolding walked
    part_waits rest follows us id m position names places word name l reads =
        rw (l.0, l.1, l.2, m.is, m.same) (follows.idles us (Some (id, word)) m position names places)
    part_waits rest follows us id m position names places word ending l reads =
        rw l (awaiting_fails us id m position names places rest)
    part_waits rest follows us id m position names places word (option called inside) l reads =
        rw (l.0, l.1) (go (arg_by_long c called) (find (λ o. bytes_eq o called) options) (table.long called) inside)
      where
        h : Held
        h = held (map use_row us) (Some (id, []))

        go : (o : Option Rule) (f : Option Text) → Long c o f → (inside : Option Text)
            → got_next (or_else (long_fault c false o inside h) (step_fault s position (after_flag c (waits_for id) word (long_met c o inside h).0 (long_met c o inside h).1).0 (after_flag c (waits_for id) word (long_met c o inside h).0 (long_met c o inside h).1).1))
            (outcome s (after_step c word (awaiting us id position false) (after_flag c (waits_for id) word (long_met c o inside h).0 (long_met c o inside h).1).0 (after_flag c (waits_for id) word (long_met c o inside h).0 (long_met c o inside h).1).1) rest) ≡ None
        go o None unknown inside = rw unknown refl
        go o (Some other_id) n None = rw (n.is, m.is) refl
        go o (Some other_id) n (Some v) = rw (n.is, m.is) refl
    part_waits rest follows us id m position names places word other l reads =
        let fails : bundle_fault c false (l.2 ∷ l.3) (held (map use_row us) (Some (id, []))) ≡ kind.UnknownArgument ∷ [] = bundle_fails l.2 l.3 (held (map use_row us) (Some (id, []))) refl (reads (l.2 ∷ l.3) l.4) in
        rw (l.0, l.1, l.4, fails) refl

    word_more : (word : Text) (rest : List Text) → Reads word → Follows rest → Follows (word ∷ rest)
    word_more word rest reads follows = record {
      idles = λ us p pends position names places. outcome_step s (state us p position false) word rest ∙ part_idles rest follows us p pends position names places word (part_of word) (looks word) reads;
      waits = λ us id m position names places. outcome_step s (awaiting us id position false) word rest ∙ part_waits rest follows us id m position names places word (part_of word) (looks word) reads;
    }

    -- the walk over the words is what `given` says
    pub follows : (words : List Text) → All Reads words → Follows words
    follows [] reads = no_words
    follows (word ∷ rest) reads = word_more word rest (All-head Reads word rest reads) (follows rest (All-tail Reads word rest reads))
