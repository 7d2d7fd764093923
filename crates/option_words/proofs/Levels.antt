-- What a parse of a command with names and options gives.
use Rattle.std.proofs.Common.{◌≡◌, ◌∙◌, ◌<◌, ◌&&◌, ◌||◌, ◌==◌, arith, ℕ, Bool, true, false, not, refl, sym, ap, List, [], ◌∷◌, map, length, Option, Some, None, if◌then◌else◌, IsUtf8, subst, eqb-true, String, string_bytes}
use Rattle.std.specs.Prelude.{option_map, option_and_then, unwrap_or, find, fold, slice_get}
use Rattle.std.specs.Option.{option_map_or}
use Rattle.std.specs.List.{All, list_any}
use Rattle.std.specs.Str.{bytes_eq, chars, encode_utf8_all}
use Rattle.std.proofs.lemmas.List.Elements.{All-cons, All-nil}
use Rattle.std.proofs.lemmas.Str.{IsUtf8-drop, IsCharBoundary-after_ascii, encodes-chars, IsUtf8-string_bytes}
use Rattle.clap.specs.Lexer.{short_of_rest}
use Rattle.clap.specs.Walk.{Row, Rule, Text, has_row, with_default, settled_rows, walk, walk_from, nothing_held, rows_after, first_of}
use Rattle.clap.specs.Simple.{Shape}
use Rattle.clap.specs.Kinds.{Kinds, or_else, check_kinds}
use Rattle.clap.specs.Takes.{is_given}
use Rattle.clap.specs.Facts.{explicit_source}
use Rattle.clap.specs.Faults.{settle_fault, walk_fault, defaults_fault, default_fault, check_fault, level_fault}
use Rattle.option_words.specs.Given.{Use, given, has, all_new, value_of}
use Rattle.option_words.proofs.Walks.{use_row, got, outcome, expect, with_pending, s, Places, IsTable, Reads, follows}

-- what is given, where nothing is given a word twice
abbrev pub once : List Use → Option (List Use)
once uses = if all_new [] uses then Some uses else None

-- no argument has a default
abbrev pub NoDefaults : List Rule → Type 0
NoDefaults [] = Unit {0}
NoDefaults (a ∷ rest) = (a.defaults ≡ []) × NoDefaults rest

kept_rows : (rows : List Row) (a : Rule) → a.defaults ≡ [] → with_default rows a ≡ rows
kept_rows rows a none = rw none (go (has_row a.id rows))
  where
    go : (b : Bool) → (if b then rows else rows) ≡ rows
    go true = refl
    go false = refl

default_passes : (rows : List Row) (a : Rule) → a.defaults ≡ [] → default_fault rows a ≡ []
default_passes rows a none = rw none (go (has_row a.id rows) _)
  where
    go : (b : Bool) (ks : Kinds) → (if b || true then [] else ks) ≡ []
    go true ks = refl
    go false ks = refl

no_rows_more : (c : List Rule) → NoDefaults c → (rows : List Row) → fold with_default rows c ≡ rows
no_rows_more [] none rows = refl
no_rows_more (a ∷ rest) none rows = rw (kept_rows rows a none.0) (no_rows_more rest none.1 rows)

defaults_pass : (c : List Rule) → NoDefaults c → (rows : List Row) → defaults_fault rows c ≡ []
unfolding defaults_fault
defaults_pass [] none rows = refl
defaults_pass (a ∷ rest) none rows = rw (default_passes rows a none.0, kept_rows rows a none.0) (defaults_pass rest none.1 rows)

-- what is required is given
abbrev pub lacks : List Rule → List Row → Bool
lacks c rows = list_any (λ a. a.required && not (is_given a.id rows)) c

-- rows that lack nothing
abbrev pub complete : List Rule → List Row → Option (List Row)
complete c rows = if lacks c rows then None else Some rows

module _ (base : Shape) (c : List Rule) (none : NoDefaults c) (help : base.arg_required_else_help ≡ false) (sub : base.subcommand_required ≡ false) where
  abbrev level : Shape
  level = s base c

  checks : (rows : List Row) → got (check_fault level rows false) rows ≡ complete c rows
  checks rows = rw (help, sub) (go (base.subcommand_negates_reqs) (lacks c rows))
    where
      go : (n b : Bool) → got (check_kinds false false (not (n && false) && b)) rows ≡ (if b then None else Some rows)
      go true true = refl
      go true false = refl
      go false true = refl
      go false false = refl

  joined : (w f : Kinds) (rows all : List Row) (d e : Kinds) → all ≡ rows → d ≡ [] → got e all ≡ complete c all
      → got (or_else w (or_else [] (or_else f (or_else d e)))) all ≡ option_and_then (complete c) (got (or_else w f) rows)
  joined [] [] rows all d e same none is = rw none (is ∙ ap (complete c) same)
  joined [] (k ∷ ks) rows all d e same none is = refl
  joined (k ∷ ks) f rows all d e same none is = refl

  -- the rows of a level, where nothing fails
  pub level_rows : (words : List Text) → got (level_fault level [] nothing_held words false []) (rows_after c [] words) ≡ option_and_then (complete c) (outcome level (walk_from nothing_held) words)
  level_rows words =
      let end = walk c [] nothing_held words in
      let rows = settled_rows c end.held.pending end.held.rows in
      joined (walk_fault level [] (walk_from nothing_held) words) (settle_fault c false end.held) rows (fold with_default rows c) (defaults_fault rows c) (check_fault level (fold with_default rows c) false)
      (no_rows_more c none rows) (defaults_pass c none rows) (checks (fold with_default rows c))

  module _ (options names : List Text) (table : IsTable c options) (places : Places c 1 names) where
    expect_once : (r : Option (List Use)) → expect [] (option_map (with_pending None) r) ≡ option_map (map use_row) (option_and_then once r)
    expect_once None = refl
    expect_once (Some uses) = go (all_new [] uses)
      where
        go : (b : Bool) → (if b then Some (map use_row uses) else None) ≡ option_map (map use_row) (if b then Some uses else None)
        go true = refl
        go false = refl

    -- the rows of a level are what the words give
    pub once_rows : (words : List Text) → All Reads words
        → got (level_fault level [] nothing_held words false []) (rows_after c [] words) ≡ option_and_then (complete c) (option_map (map use_row) (option_and_then once (given options words names None)))
    once_rows words reads =
        level_rows words ∙ ap (option_and_then (complete c))
        ((follows base c options table words reads).idles [] None tt 1 names places ∙ expect_once (given options words names None))

-- ---- what the rows say

-- the first value of an argument in the rows is that of its use
pub first_value : (uses : List Use) (id : Text) → first_of id (map use_row uses) ≡ value_of uses id
first_value [] id = refl
first_value (u ∷ uses) id = go (bytes_eq u.0 id) (first_value uses id)
  where
    go : (b : Bool) → first_of id (map use_row uses) ≡ value_of uses id
        → option_and_then (λ (r : Row). slice_get r.values 0) (if b then Some (use_row u) else find (λ r. bytes_eq r.id id) (map use_row uses)) ≡ option_map (λ (x : Use). x.1) (if b then Some u else find (λ x. bytes_eq x.0 id) uses)
    go true e = refl
    go false e = e

-- an argument is given in the rows exactly where it has a use
pub given_has : (id : Text) (uses : List Use) → is_given id (map use_row uses) ≡ has id uses
given_has id [] = refl
given_has id (u ∷ uses) = go (bytes_eq u.0 id) (given_has id uses)
  where
    go : (b : Bool) → is_given id (map use_row uses) ≡ has id uses
        → option_map_or (λ (r : Row). explicit_source r.source) (if b then Some (use_row u) else find (λ r. bytes_eq r.id id) (map use_row uses)) false ≡ b || has id uses
    go true e = refl
    go false e = e

-- ---- a text has a first character

first_char : (cs : List ℕ) (bs : List ℕ) → cs ≡ chars bs → encode_utf8_all cs ≡ bs → (0 < length bs) → (x : ℕ) × (slice_get (chars bs) 0 ≡ Some x)
first_char [] bs is spells some = absurd (let none : length bs ≡ 0 = ap length (sym spells) in omega (arith, none, some))
first_char (x ∷ xs) bs is spells some = (x, ap (λ l. slice_get l 0) (sym is))

some_flags : (a b : Text) → Some a ≡ Some b → a ≡ b
some_flags a b e = ap (λ o. unwrap_or o a) e

-- a text in UTF-8 has a first character behind its dash
pub reads : (word : Text) → IsUtf8 word → Reads word
reads [] text flags is = absurd cc
reads (a ∷ []) text flags is = go (a == 45) is
  where
    go : (x : Bool) → option_and_then short_of_rest (if x then Some [] else None) ≡ Some flags → (y : ℕ) × (slice_get (chars flags) 0 ≡ Some y)
    go true is = absurd cc
    go false is = absurd cc
reads (a ∷ b ∷ rest) text flags is = go (a == 45) refl (b == 45) is
  where
    go : (x : Bool) → (a == 45) ≡ x → (y : Bool) → option_and_then short_of_rest (if x then Some (b ∷ rest) else None) ≡ Some flags → (y : ℕ) × (slice_get (chars flags) 0 ≡ Some y)
    go false one y is = absurd cc
    go true one y is =
        let dash : a ≡ 45 = eqb-true a 45 one in
        let behind : IsUtf8 (b ∷ rest) = IsUtf8-drop (a ∷ b ∷ rest) 1 text (IsCharBoundary-after_ascii (a ∷ b ∷ rest) 0 text (omega arith) (omega (arith, dash))) in
        by (b == 45) is behind
      where
        by : (z : Bool) → (if z then None else Some (b ∷ rest)) ≡ Some flags → IsUtf8 (b ∷ rest) → (y : ℕ) × (slice_get (chars flags) 0 ≡ Some y)
        by true is behind = absurd cc
        by false is behind =
            subst (λ (t : Text). (y : ℕ) × (slice_get (chars t) 0 ≡ Some y)) (some_flags (b ∷ rest) flags is)
            (first_char (chars (b ∷ rest)) (b ∷ rest) refl (encodes-chars (b ∷ rest) behind) (omega arith))

-- so have the words of a command line
pub texts_read : {Z : Type 0} (words : List (String Z)) → All Reads (map string_bytes words)
texts_read [] = All-nil Reads
texts_read (word ∷ rest) = All-cons Reads (string_bytes word) (map string_bytes rest) (reads (string_bytes word) (IsUtf8-string_bytes word)) (texts_read rest)
