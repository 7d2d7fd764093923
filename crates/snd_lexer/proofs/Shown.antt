-- The bytes of a token are those of its piece.
use Rattle.std.proofs.Common.{◌≡◌, ℕ, ◌+◌, ◌-◌, List, [], ◌∷◌, ◌++◌, length, map, Option, Some, None, refl, sym, ap, ◌∙◌, append_assoc, arith}
use Rattle.std.specs.Prelude.{slice_range}
use Rattle.std.proofs.lemmas.List.{append-nil, map-append, drop_at, take_at, length-append}
use Rattle.snd_lexer.specs.declared.token.Dialect.{Dialect}
use Rattle.snd_lexer.specs.declared.token.TokenKind.{TokenKind}
use Rattle.snd_lexer.specs.declared.token.Token.{Token}
use Rattle.snd_lexer.proofs.Cuts.{same_pieces}
use Rattle.snd_lexer.specs.Cutting.{Piece, piece_text, text_of, kind_of, token_at, tokens_from, Lexes, shown_by, shown, with_bytes, Shows}

slice-middle : (pre mid after : List ℕ) → slice_range (pre ++ (mid ++ after)) (length pre) (length pre + length mid) ≡ mid
slice-middle pre mid after =
    let n : length pre + length mid - length pre ≡ length mid = omega arith in
    rw (n, drop_at pre (mid ++ after) (length pre) refl, take_at mid after (length mid) refl) refl

one-shown : (pre : List ℕ) (p : Piece) (after : List ℕ) (o : Option TokenKind) → map (with_bytes (pre ++ (piece_text p ++ after))) (token_at (length pre) (length pre + length (piece_text p)) o) ≡ shown_by (piece_text p) o
one-shown pre p after None = refl
one-shown pre p after (Some kind) = ap (λ (bytes : List ℕ). (kind, bytes) ∷ []) (slice-middle pre (piece_text p) after)

all-shown : (pre : List ℕ) (ps : List Piece) (after : List ℕ) → map (with_bytes (pre ++ (text_of ps ++ after))) (tokens_from (length pre) ps) ≡ shown ps
all-shown pre [] after = refl
all-shown pre (p ∷ ps) after =
    let text = pre ++ (piece_text p ++ text_of ps ++ after) in
    let at = length pre + length (piece_text p) in
    let first : map (with_bytes text) (token_at (length pre) at (kind_of p)) ≡ shown_by (piece_text p) (kind_of p) =
    ap (λ (t : List ℕ). map (with_bytes (pre ++ t)) (token_at (length pre) at (kind_of p))) (append_assoc (piece_text p) (text_of ps) after) ∙ one-shown pre p (text_of ps ++ after) (kind_of p) in
    let regrouped : text ≡ (pre ++ piece_text p) ++ (text_of ps ++ after) = ap (λ (t : List ℕ). pre ++ t) (append_assoc (piece_text p) (text_of ps) after) ∙ sym (append_assoc pre (piece_text p) (text_of ps ++ after)) in
    let later : map (with_bytes text) (tokens_from at ps) ≡ shown ps =
    ap (λ (t : List ℕ). map (with_bytes t) (tokens_from at ps)) regrouped ∙ ap (λ (n : ℕ). map (with_bytes ((pre ++ piece_text p) ++ (text_of ps ++ after))) (tokens_from n ps)) (sym (length-append pre (piece_text p))) ∙ all-shown (pre ++ piece_text p) ps after in
    map-append (with_bytes text) (token_at (length pre) at (kind_of p)) (tokens_from at ps) ∙ ap (λ (ls : List (TokenKind × List ℕ)). ls ++ map (with_bytes text) (tokens_from at ps)) first ∙ ap (λ (ls : List (TokenKind × List ℕ)). shown_by (piece_text p) (kind_of p) ++ ls) later

-- the tokens of a text show the bytes of their pieces
pub lexes_shows : (d : Dialect) (text : List ℕ) (ts : List Token) → Lexes d text ts → Shows d text (map (with_bytes text) ts)
lexes_shows d text ts l = record {
  pieces = l.pieces;
  cut = l.cut;
  whole = l.whole;
  these = rw (l.whole, l.these) (ap (λ (t : List ℕ). map (with_bytes t) (tokens_from 0 l.pieces)) (sym (append-nil (text_of l.pieces))) ∙ all-shown [] l.pieces []);
}

-- a text shows one list of kinds and bytes
pub one_shown_list : (d : Dialect) (text : List ℕ) (ls ms : List (TokenKind × List ℕ)) → Shows d text ls → Shows d text ms → ls ≡ ms
one_shown_list d text ls ms a b = a.these ∙ ap shown (same_pieces d a.pieces b.pieces a.cut b.cut (sym a.whole ∙ b.whole)) ∙ sym b.these

-- what a text shows comes from its tokens
pub shown_is_cut : (d : Dialect) (text : List ℕ) (ls : List (TokenKind × List ℕ)) → Shows d text ls → (ts : List Token) × Lexes d text ts × (map (with_bytes text) ts ≡ ls)
shown_is_cut d text ls s =
    let l : Lexes d text (tokens_from 0 s.pieces) = record { pieces = s.pieces; cut = s.cut; whole = s.whole; these = refl } in
    (tokens_from 0 s.pieces, l, one_shown_list d text _ ls (lexes_shows d text _ l) s)
