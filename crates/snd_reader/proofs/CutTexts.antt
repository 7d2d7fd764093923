-- Canonical texts are cut into the tokens that they are written from.
use Rattle.std.proofs.Common.{◌≡◌, ℕ, ◌+◌, true, List, [], ◌∷◌, ◌++◌, length, map, refl, sym, ap, subst, ◌∙◌, append_assoc, flat_map}
use Rattle.std.specs.List.{AllByRecursion}
use Rattle.std.proofs.lemmas.List.{append-nil, map-append}
use Rattle.std.proofs.lemmas.List.Elements.{recursion_from_All}
use Rattle.snd_lexer.specs.declared.token.Dialect.{Dialect}
use Rattle.snd_lexer.specs.declared.token.Dialect.TheVariants.{Model}
use Rattle.snd_lexer.specs.declared.token.Token.{Token}
use Rattle.snd_lexer.specs.declared.token.TokenKind.{TokenKind}
use Rattle.snd_lexer.specs.Cutting.{Piece, blank, word, open_bracket, close_bracket, equals_sign, piece_text, text_of, is_blank, is_word, EndsRun, IsPiece, AreCut, Lexes, shown_by, kind_of, shown, with_bytes}
use Rattle.snd_lexer.proofs.Shown.{shown_is_cut}
use Rattle.snd_reader.specs.Readers.{Lexeme, the_end, Placed}
use Rattle.snd_reader.specs.Readers as readers
use Rattle.snd_reader.specs.Tokens.{lexeme_of, place, placed}
use Rattle.snd_reader.specs.Writing.{IsWordOf, lexeme_text, spaced, line_of, section_text}

-- ---- texts that are cut, one behind the other

-- the tokens of these kinds with these bytes
abbrev lexemes : List (TokenKind × List ℕ) → List Lexeme
lexemes ls = map (λ (p : TokenKind × List ℕ). lexeme_of p.0 p.1) ls

-- each token is this one
abbrev pub AreSeen : List Placed → List Lexeme → Type 0
AreSeen [] [] = Unit {0}
AreSeen [] (l ∷ ls) = ⊥
AreSeen (t ∷ ts) [] = ⊥
AreSeen (t ∷ ts) (l ∷ ls) = (t.is ≡ l) × AreSeen ts ls

placed-seen : (base : ℕ) (text : List ℕ) (ts : List Token) (last : Placed) → AreSeen (map (place base text) ts ++ last ∷ []) (lexemes (map (with_bytes text) ts) ++ last.is ∷ [])
placed-seen base text [] last = (refl, tt)
placed-seen base text (t ∷ ts) last = (refl, placed-seen base text ts last)

-- the tokens of a section
abbrev pub section_tokens : List ℕ → List Lexeme → List Lexeme
section_tokens name ls = readers.word name ∷ readers.open_bracket ∷ (ls ++ readers.close_bracket ∷ [])

module _ (d : Dialect) where
  -- the text is cut where these bytes stand behind it, and these are its tokens
  pub record IsCutInto (text : List ℕ) (ls : List Lexeme) (after : List ℕ) : Type 0 where
    pub pieces : List Piece
    pub cut : AreCut d pieces after
    pub whole : text ≡ text_of pieces
    pub these : lexemes (shown pieces) ≡ ls

  text_of-append : (ps qs : List Piece) → text_of (ps ++ qs) ≡ text_of ps ++ text_of qs
  text_of-append [] qs = refl
  text_of-append (p ∷ ps) qs = ap (λ (t : List ℕ). piece_text p ++ t) (text_of-append ps qs) ∙ sym (append_assoc (piece_text p) (text_of ps) (text_of qs))

  shown-append : (ps qs : List Piece) → shown (ps ++ qs) ≡ shown ps ++ shown qs
  shown-append [] qs = refl
  shown-append (p ∷ ps) qs = ap (λ (t : List (TokenKind × List ℕ)). shown_by (piece_text p) (kind_of p) ++ t) (shown-append ps qs) ∙ sym (append_assoc (shown_by (piece_text p) (kind_of p)) (shown ps) (shown qs))

  are_cut-append : (ps qs : List Piece) (after : List ℕ) → AreCut d ps (text_of qs ++ after) → AreCut d qs after → AreCut d (ps ++ qs) after
  are_cut-append [] qs after h k = k
  are_cut-append (p ∷ ps) qs after h k =
      let same : text_of ps ++ (text_of qs ++ after) ≡ text_of (ps ++ qs) ++ after = sym (append_assoc (text_of ps) (text_of qs) after) ∙ ap (λ (t : List ℕ). t ++ after) (sym (text_of-append ps qs)) in
      (subst (λ (t : List ℕ). IsPiece d p t) same h.0, are_cut-append ps qs after h.1 k)

  -- two texts that are cut are cut together
  pub glue : (a b after : List ℕ) (ls ms : List Lexeme) → IsCutInto a ls (b ++ after) → IsCutInto b ms after → IsCutInto (a ++ b) (ls ++ ms) after
  glue a b after ls ms x y = record {
    pieces = x.pieces ++ y.pieces;
    cut = are_cut-append x.pieces y.pieces after (subst (λ (t : List ℕ). AreCut d x.pieces (t ++ after)) y.whole x.cut) y.cut;
    whole = ap (λ (t : List ℕ). t ++ b) x.whole ∙ ap (λ (t : List ℕ). text_of x.pieces ++ t) y.whole ∙ sym (text_of-append x.pieces y.pieces);
    these = ap lexemes (shown-append x.pieces y.pieces)
        ∙ map-append (λ (p : TokenKind × List ℕ). lexeme_of p.0 p.1) (shown x.pieces) (shown y.pieces)
        ∙ ap (λ (t : List Lexeme). t ++ lexemes (shown y.pieces)) x.these
        ∙ ap (λ (t : List Lexeme). ls ++ t) y.these;
  }

  -- a blank is cut into no tokens
  pub blank_cut : (byte : ℕ) (after : List ℕ) → is_blank byte ≡ true → IsCutInto (byte ∷ []) [] after
  blank_cut byte after h = record { pieces = blank byte ∷ []; cut = (h, tt); whole = refl; these = refl }

  -- ---- tokens

  -- a token that may stand in a text
  abbrev pub IsWritable : Lexeme → Type 0
  IsWritable (readers.word bytes) = IsWordOf d bytes
  IsWritable readers.open_bracket = Unit {0}
  IsWritable readers.close_bracket = Unit {0}
  IsWritable readers.equals_sign = d ≡ Model
  IsWritable readers.the_end = ⊥

  -- the bytes of a token that may stand in a text are cut into that token, where no word goes on behind them
  pub token_cut : (l : Lexeme) (after : List ℕ) → IsWritable l → EndsRun (is_word d) after → IsCutInto (lexeme_text l) (l ∷ []) after
  token_cut (readers.word bytes) after h e = record {
    pieces = word bytes ∷ [];
    cut = ((h.some, (recursion_from_All (λ byte. is_word d byte ≡ true) bytes h.word_bytes, e)), tt);
    whole = sym (append-nil bytes);
    these = refl;
  }
  token_cut readers.open_bracket after h e = record { pieces = open_bracket ∷ []; cut = (tt, tt); whole = refl; these = refl }
  token_cut readers.close_bracket after h e = record { pieces = close_bracket ∷ []; cut = (tt, tt); whole = refl; these = refl }
  token_cut readers.equals_sign after h e = record { pieces = equals_sign ∷ []; cut = (h, tt); whole = refl; these = refl }
  token_cut readers.the_end after h e = absurd h

  -- tokens of which each may stand in a text
  abbrev pub AreWritable : List Lexeme → Type 0
  AreWritable ls = AllByRecursion IsWritable ls

  spaced-ends : (ls : List Lexeme) (after : List ℕ) → EndsRun (is_word d) after → EndsRun (is_word d) (spaced ls ++ after)
  spaced-ends [] after e = e
  spaced-ends (l ∷ ls) after e = refl

  -- tokens written with a space in front of each are cut into these tokens, where no word goes on behind them
  pub spaced_cut : (ls : List Lexeme) (after : List ℕ) → AreWritable ls → EndsRun (is_word d) after → IsCutInto (spaced ls) ls after
  spaced_cut [] after h e = record { pieces = []; cut = tt; whole = refl; these = refl }
  spaced_cut (l ∷ ls) after h e =
      glue (32 ∷ []) (lexeme_text l ++ spaced ls) after [] (l ∷ ls) (blank_cut 32 ((lexeme_text l ++ spaced ls) ++ after) refl)
      (glue (lexeme_text l) (spaced ls) after (l ∷ []) ls (token_cut l (spaced ls ++ after) h.0 (spaced-ends ls after e)) (spaced_cut ls after h.1 e))

  -- ---- lines and sections

  with_lexemes : (text after : List ℕ) (ls ms : List Lexeme) → ls ≡ ms → IsCutInto text ls after → IsCutInto text ms after
  with_lexemes text after ls ms e h = subst (λ (t : List Lexeme). IsCutInto text t after) e h

  -- the line of tokens that may stand in a text is cut into these tokens
  pub line_cut : (ls : List Lexeme) (after : List ℕ) → AreWritable ls → IsCutInto (line_of ls) ls after
  line_cut ls after h =
      glue (32 ∷ []) (spaced ls ++ 10 ∷ []) after [] ls (blank_cut 32 ((spaced ls ++ 10 ∷ []) ++ after) refl)
      (with_lexemes (spaced ls ++ 10 ∷ []) after (ls ++ []) ls (append-nil ls)
      (glue (spaced ls) (10 ∷ []) after ls [] (spaced_cut ls (10 ∷ after) h refl) (blank_cut 10 after refl)))

  -- the lines of records whose tokens may stand in a text are cut into these tokens in order
  pub lines_cut : {X : Type 0} (tokens : X → List Lexeme) (xs : List X) (after : List ℕ) → AllByRecursion (λ x. AreWritable (tokens x)) xs → IsCutInto (flat_map (λ x. line_of (tokens x)) xs) (flat_map tokens xs) after
  lines_cut tokens [] after h = record { pieces = []; cut = tt; whole = refl; these = refl }
  lines_cut tokens (x ∷ xs) after h =
      glue (line_of (tokens x)) (flat_map (λ y. line_of (tokens y)) xs) after (tokens x) (flat_map tokens xs)
      (line_cut (tokens x) (flat_map (λ y. line_of (tokens y)) xs ++ after) h.0) (lines_cut tokens xs after h.1)

  closing-cut : (after : List ℕ) → IsCutInto (41 ∷ 10 ∷ []) (readers.close_bracket ∷ []) after
  closing-cut after = record { pieces = close_bracket ∷ blank 10 ∷ []; cut = (tt, (refl, tt)); whole = refl; these = refl }

  opening-cut : (after : List ℕ) → IsCutInto (32 ∷ 40 ∷ 10 ∷ []) (readers.open_bracket ∷ []) after
  opening-cut after = record { pieces = blank 32 ∷ open_bracket ∷ blank 10 ∷ []; cut = (refl, (tt, (refl, tt))); whole = refl; these = refl }

  -- the text of a section whose lines are cut into tokens is cut into its name, an Open, these and a Close
  pub section_cut : (name lines after : List ℕ) (ls : List Lexeme) → IsWordOf d name → IsCutInto lines ls (41 ∷ 10 ∷ after) → IsCutInto (section_text name lines) (section_tokens name ls) after
  section_cut name lines after ls w h =
      glue name (32 ∷ 40 ∷ 10 ∷ (lines ++ 41 ∷ 10 ∷ [])) after (readers.word name ∷ []) (readers.open_bracket ∷ (ls ++ readers.close_bracket ∷ []))
      (token_cut (readers.word name) (32 ∷ 40 ∷ 10 ∷ ((lines ++ 41 ∷ 10 ∷ []) ++ after)) w refl)
      (glue (32 ∷ 40 ∷ 10 ∷ []) (lines ++ 41 ∷ 10 ∷ []) after (readers.open_bracket ∷ []) (ls ++ readers.close_bracket ∷ []) (opening-cut ((lines ++ 41 ∷ 10 ∷ []) ++ after))
      (glue lines (41 ∷ 10 ∷ []) after ls (readers.close_bracket ∷ []) h (closing-cut after)))

  -- ---- the tokens of a text

  -- the whole text is cut into tokens, and without their places they are these
  pub record HasLexemes (text : List ℕ) (ls : List Lexeme) : Type 0 where
    pub tokens : List Token
    pub cut : Lexes d text tokens
    pub these : lexemes (map (with_bytes text) tokens) ≡ ls

  -- where a text is cut into these tokens with no bytes behind it, they are the tokens of the whole text
  pub has_lexemes : (text : List ℕ) (ls : List Lexeme) → IsCutInto text ls [] → HasLexemes text ls
  has_lexemes text ls h =
      let found = shown_is_cut d text (shown h.pieces) (record { pieces = h.pieces; cut = h.cut; whole = h.whole; these = refl }) in
      record { tokens = found.0; cut = found.1; these = ap lexemes found.2 ∙ h.these }

  -- the tokens of a text with their places, and its end behind them, are these and an end
  pub placed_seen : (base : ℕ) (text : List ℕ) (ls : List Lexeme) (h : HasLexemes text ls) → AreSeen (placed base text h.tokens) (ls ++ the_end ∷ [])
  placed_seen base text ls h =
      let last : Placed = record { at = base + length text; is = the_end } in
      subst (λ (ms : List Lexeme). AreSeen (placed base text h.tokens) (ms ++ the_end ∷ [])) h.these (placed-seen base text h.tokens last)
