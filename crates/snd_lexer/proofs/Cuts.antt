-- The pieces of a text are those that are found from left to right.
use Rattle.std.proofs.Common.{◌≡◌, ℕ, ◌+◌, ◌-◌, ◌<◌, ◌≤◌, Bool, true, false, cond, List, [], ◌∷◌, ◌++◌, length, take, drop, Option, Some, None, refl, sym, ap, subst, ◌∙◌, append_assoc, inl, inr, arith, add-zero, zero-add}
use Rattle.std.specs.List.{All}
use Rattle.std.proofs.lemmas.List.Elements.{All-nil, All-cons}
use Rattle.std.specs.Option.{option_map}
use Rattle.std.proofs.lemmas.Bool.{eqb-true, cases_Bool}
use Rattle.std.proofs.lemmas.Option.{some_pair_parts}
use Rattle.std.proofs.lemmas.List.{append-nil, drop_at, length-append, take_rest, nil_from_length}
use Rattle.snd_lexer.specs.declared.token.Dialect.{Dialect}
use Rattle.snd_lexer.specs.declared.token.Dialect.TheVariants.{Network, Model}
use Rattle.snd_lexer.specs.declared.token.TokenKind.{TokenKind}
use Rattle.snd_lexer.specs.declared.token.Token.{Token}
use Rattle.snd_lexer.specs.declared.class.Class.{Class}
use Rattle.snd_lexer.specs.declared.class.Class.TheVariants.{Blank, Hash, Open, Close, Equals, Word, Forbidden}
use Rattle.snd_lexer.specs.Cutting.{Piece, blank, comment, word, open_bracket, close_bracket, equals_sign, piece_text, text_of, kind_of, token_at, tokens_from, class_of, class_of_equals, is_blank, is_word_class, is_word, is_in_comment, IsRun, IsPiece, AreCut, AreSpans, IsWithin, Lexes, StopsAt}
use Rattle.snd_lexer.specs.Pieces.{front, behind, piece_by, first_piece, length_and_kind}

-- ---- runs

-- the longest run at the front of a text that has one
pub front-run : (p : ℕ → Bool) (bytes after : List ℕ) → IsRun p bytes after → front p (bytes ++ after) ≡ bytes
front-run p [] [] h = refl
front-run p [] (b ∷ after) h = rw h.1 refl
front-run p (b ∷ bytes) after h = rw h.0.0 (ap (λ (bs : List ℕ). b ∷ bs) (front-run p bytes after (h.0.1, h.1)))

behind-run : (p : ℕ → Bool) (bytes after : List ℕ) → IsRun p bytes after → behind p (bytes ++ after) ≡ after
behind-run p [] [] h = refl
behind-run p [] (b ∷ after) h = rw h.1 refl
behind-run p (b ∷ bytes) after h = rw h.0.0 (behind-run p bytes after (h.0.1, h.1))

-- a text is its longest run and what stands behind it
pub front-behind : (p : ℕ → Bool) (bytes : List ℕ) → bytes ≡ front p bytes ++ behind p bytes
front-behind p [] = refl
front-behind p (b ∷ bytes) =
    elim (cases_Bool (p b)) [
      | inl h ↦ rw h (ap (λ (bs : List ℕ). b ∷ bs) (front-behind p bytes))
      | inr h ↦ rw h refl
    ]

-- what is found at the front is a longest run
pub run-front : (p : ℕ → Bool) (bytes : List ℕ) → IsRun p (front p bytes) (behind p bytes)
run-front p [] = (tt, tt)
run-front p (b ∷ bytes) =
    elim (cases_Bool (p b)) [
      | inl h ↦ rw h (let r = run-front p bytes in ((h, r.0), r.1))
      | inr h ↦ rw h (tt, h)
    ]

-- ---- what the class of a byte says

abbrev Says : Dialect → ℕ → Class → Type 0
Says d b Blank = is_blank b ≡ true
Says d b Hash = b ≡ 35
Says d b Open = b ≡ 40
Says d b Close = b ≡ 41
Says d b Equals = (b ≡ 61) × (d ≡ Model)
Says d b Word = Unit {0}
Says d b Forbidden = Unit {0}

says-chain : (d : Dialect) (b : ℕ) (x1 x2 x3 x4 x5 x6 : Bool) → (x1 ≡ true → is_blank b ≡ true) → (x2 ≡ true → b ≡ 35) → (x3 ≡ true → b ≡ 40) → (x4 ≡ true → b ≡ 41) → (x5 ≡ true → b ≡ 61)
    → Says d b (cond x1 Blank (cond x2 Hash (cond x3 Open (cond x4 Close (cond x5 (class_of_equals d) (cond x6 Forbidden Word))))))
says-chain d b true x2 x3 x4 x5 x6 h1 h2 h3 h4 h5 = h1 refl
says-chain d b false true x3 x4 x5 x6 h1 h2 h3 h4 h5 = h2 refl
says-chain d b false false true x4 x5 x6 h1 h2 h3 h4 h5 = h3 refl
says-chain d b false false false true x5 x6 h1 h2 h3 h4 h5 = h4 refl
says-chain Network b false false false false true x6 h1 h2 h3 h4 h5 = tt
says-chain Model b false false false false true x6 h1 h2 h3 h4 h5 = (h5 refl, refl)
says-chain d b false false false false false true h1 h2 h3 h4 h5 = tt
says-chain d b false false false false false false h1 h2 h3 h4 h5 = tt

says : (d : Dialect) (b : ℕ) → Says d b (class_of d b)
says d b = says-chain d b _ _ _ _ _ _ (λ e. e) (eqb-true b 35) (eqb-true b 40) (eqb-true b 41) (eqb-true b 61)

is-word : (c : Class) → is_word_class c ≡ true → c ≡ Word
is-word Word e = refl
is-word c e = absurd cc

-- ---- one piece

-- a piece at the front of a text is found again
pub first_again : (d : Dialect) (p : Piece) (after : List ℕ) → IsPiece d p after → first_piece d (piece_text p ++ after) ≡ Some (p, after)
unfolding first_piece
first_again d (blank b) after h = rw h refl
first_again d (comment bytes) after h = rw (front-run is_in_comment bytes after h, behind-run is_in_comment bytes after h) refl
first_again d (word []) after h = absurd (omega (arith, h.0))
first_again d (word (b ∷ bytes)) after h =
    let is : class_of d b ≡ Word = is-word (class_of d b) h.1.0.0 in
    rw (is, front-run (is_word d) bytes after (h.1.0.1, h.1.1), behind-run (is_word d) bytes after (h.1.0.1, h.1.1)) refl
first_again d open_bracket after h = refl
first_again d close_bracket after h = refl
first_again d equals_sign after h = rw h refl

-- a piece at the front of a text
pub record Begins (d : Dialect) (text : List ℕ) (p : Piece) (after : List ℕ) : Type 0 where
  pub piece : IsPiece d p after
  pub whole : text ≡ piece_text p ++ after
  pub some : 0 < length (piece_text p)

abbrev Found : Dialect → List ℕ → Option (Piece × List ℕ) → Type 0
Found d text None = Unit {0}
Found d text (Some x) = Begins d text x.0 x.1

found-by : (d : Dialect) (c : Class) (b : ℕ) (bytes : List ℕ) → class_of d b ≡ c → Says d b c → Found d (b ∷ bytes) (piece_by d c b bytes)
found-by d Blank b bytes e s = record { piece = s; whole = refl; some = omega arith }
found-by d Hash b bytes e s = record { piece = run-front is_in_comment bytes; whole = rw s (ap (λ (bs : List ℕ). 35 ∷ bs) (front-behind is_in_comment bytes)); some = omega arith }
found-by d Open b bytes e s = record { piece = tt; whole = rw s refl; some = omega arith }
found-by d Close b bytes e s = record { piece = tt; whole = rw s refl; some = omega arith }
found-by d Equals b bytes e s = record { piece = s.1; whole = rw s.0 refl; some = omega arith }
found-by d Word b bytes e s =
    let r = run-front (is_word d) bytes in
    record { piece = (omega arith, ((ap is_word_class e, r.0), r.1)); whole = ap (λ (bs : List ℕ). b ∷ bs) (front-behind (is_word d) bytes); some = omega arith }
found-by d Forbidden b bytes e s = tt

found-first : (d : Dialect) (text : List ℕ) → Found d text (first_piece d text)
unfolding first_piece
found-first d [] = tt
found-first d (b ∷ bytes) = found-by d (class_of d b) b bytes refl (says d b)

-- what is found at the front of a text is a piece of it
pub first_found : (d : Dialect) (text : List ℕ) (p : Piece) (after : List ℕ) → first_piece d text ≡ Some (p, after) → Begins d text p after
first_found d text p after e = subst (λ (o : Option (Piece × List ℕ)). Found d text o) e (found-first d text)

-- ---- a text has one cut

-- a text is cut into pieces in one way only
pub one_cut : (d : Dialect) (ps qs : List Piece) (a b : List ℕ) → AreCut d ps a → AreCut d qs b → first_piece d a ≡ None → first_piece d b ≡ None
    → text_of ps ++ a ≡ text_of qs ++ b → (ps ≡ qs) × (a ≡ b)
one_cut d [] [] a b cp cq na nb e = (refl, e)
one_cut d [] (q ∷ qs) a b cp cq na nb e =
    let f : first_piece d a ≡ Some (q, text_of qs ++ b) = ap (first_piece d) (e ∙ append_assoc (piece_text q) (text_of qs) b) ∙ first_again d q (text_of qs ++ b) cq.0 in
    absurd cc
one_cut d (p ∷ ps) [] a b cp cq na nb e =
    let f : first_piece d b ≡ Some (p, text_of ps ++ a) = ap (first_piece d) (sym e ∙ append_assoc (piece_text p) (text_of ps) a) ∙ first_again d p (text_of ps ++ a) cp.0 in
    absurd cc
one_cut d (p ∷ ps) (q ∷ qs) a b cp cq na nb e =
    let f : first_piece d (piece_text p ++ (text_of ps ++ a)) ≡ Some (p, text_of ps ++ a) = first_again d p (text_of ps ++ a) cp.0 in
    let g : first_piece d (piece_text q ++ (text_of qs ++ b)) ≡ Some (q, text_of qs ++ b) = first_again d q (text_of qs ++ b) cq.0 in
    let same : piece_text p ++ (text_of ps ++ a) ≡ piece_text q ++ (text_of qs ++ b) = sym (append_assoc (piece_text p) (text_of ps) a) ∙ e ∙ append_assoc (piece_text q) (text_of qs) b in
    let parts = some_pair_parts p q (text_of ps ++ a) (text_of qs ++ b) (sym f ∙ ap (first_piece d) same ∙ g) in
    let r = one_cut d ps qs a b cp.1 cq.1 na nb parts.1 in
    let head : p ≡ q = parts.0 in
    let tail : ps ≡ qs = r.0 in
    (cc, r.1)

none-at-end : (d : Dialect) → first_piece d [] ≡ None
unfolding first_piece
none-at-end d = refl

none-at-forbidden : (d : Dialect) (b : ℕ) (after : List ℕ) → class_of d b ≡ Forbidden → first_piece d (b ∷ after) ≡ None
unfolding first_piece
none-at-forbidden d b after e = rw e refl

-- where no piece is found, the text ends or a forbidden byte stands
abbrev Ends : Dialect → List ℕ → Type 0
Ends d [] = Unit {0}
Ends d (b ∷ after) = class_of d b ≡ Forbidden

by-none : (d : Dialect) (c : Class) (b : ℕ) (bytes : List ℕ) → piece_by d c b bytes ≡ None → c ≡ Forbidden
by-none d Blank b bytes e = absurd cc
by-none d Hash b bytes e = absurd cc
by-none d Open b bytes e = absurd cc
by-none d Close b bytes e = absurd cc
by-none d Equals b bytes e = absurd cc
by-none d Word b bytes e = absurd cc
by-none d Forbidden b bytes e = refl

-- where no piece is found, the text is at its end or at a forbidden byte
pub ends : (d : Dialect) (text : List ℕ) → first_piece d text ≡ None → Ends d text
unfolding first_piece
ends d [] e = tt
ends d (b ∷ after) e = by-none d (class_of d b) b after e

-- ---- what has been cut so far

-- up to this place the text is cut into pieces, and these are their tokens
pub record CutTo (d : Dialect) (text : List ℕ) (at : ℕ) (tokens : List Token) : Type 0 where
  pub pieces : List Piece
  pub after : List ℕ
  pub cut : AreCut d pieces after
  pub whole : text ≡ text_of pieces ++ after
  pub place : at ≡ length (text_of pieces)
  pub these : tokens ≡ tokens_from 0 pieces

-- at the beginning nothing is cut
pub begin : (d : Dialect) (text : List ℕ) → CutTo d text 0 []
begin d text = record { pieces = []; after = text; cut = tt; whole = refl; place = refl; these = refl }

text-push : (ps : List Piece) (p : Piece) → text_of (ps ++ p ∷ []) ≡ text_of ps ++ piece_text p
text-push [] p = append-nil (piece_text p)
text-push (q ∷ ps) p = ap (λ (bs : List ℕ). piece_text q ++ bs) (text-push ps p) ∙ sym (append_assoc (piece_text q) (text_of ps) (piece_text p))

cut-push : (d : Dialect) (ps : List Piece) (p : Piece) (after : List ℕ) → AreCut d ps (piece_text p ++ after) → IsPiece d p after → AreCut d (ps ++ p ∷ []) after
cut-push d [] p after h k = (k, tt)
cut-push d (q ∷ ps) p after h k =
    let e : text_of ps ++ (piece_text p ++ after) ≡ text_of (ps ++ p ∷ []) ++ after = sym (append_assoc (text_of ps) (piece_text p) after) ∙ ap (λ (bs : List ℕ). bs ++ after) (sym (text-push ps p)) in
    (subst (λ (bs : List ℕ). IsPiece d q bs) e h.0, cut-push d ps p after h.1 k)

abbrev token_after : ℕ → Piece → List Token
token_after at p = token_at at (at + length (piece_text p)) (kind_of p)

tokens-push : (at : ℕ) (ps : List Piece) (p : Piece) → tokens_from at (ps ++ p ∷ []) ≡ tokens_from at ps ++ token_after (at + length (text_of ps)) p
tokens-push at [] p = rw add-zero (append-nil (token_after at p))
tokens-push at (q ∷ ps) p =
    let e : at + length (piece_text q) + length (text_of ps) ≡ at + length (text_of (q ∷ ps)) = omega (arith, length-append (piece_text q) (text_of ps)) in
    let first = token_after at q in
    ap (λ (ts : List Token). first ++ ts) (tokens-push (at + length (piece_text q)) ps p)
    ∙ sym (append_assoc first (tokens_from (at + length (piece_text q)) ps) (token_after (at + length (piece_text q) + length (text_of ps)) p))
    ∙ ap (λ (n : ℕ). tokens_from at (q ∷ ps) ++ token_after n p) e

-- one piece more is cut off
pub step : (d : Dialect) (text : List ℕ) (at : ℕ) (tokens : List Token) (p : Piece) (after : List ℕ) → CutTo d text at tokens → first_piece d (drop at text) ≡ Some (p, after)
    → CutTo d text (at + length (piece_text p)) (tokens ++ token_after at p)
step d text at tokens p after c e =
    let rest : drop at text ≡ c.after = ap (drop at) c.whole ∙ drop_at (text_of c.pieces) c.after at (sym c.place) in
    let b = first_found d (drop at text) p after e in
    let front : c.after ≡ piece_text p ++ after = sym rest ∙ b.whole in
    record {
      pieces = c.pieces ++ p ∷ [];
      after = after;
      cut = cut-push d c.pieces p after (subst (λ (bs : List ℕ). AreCut d c.pieces bs) front c.cut) b.piece;
      whole = c.whole ∙ ap (λ (bs : List ℕ). text_of c.pieces ++ bs) front ∙ sym (append_assoc (text_of c.pieces) (piece_text p) after) ∙ ap (λ (bs : List ℕ). bs ++ after) (sym (text-push c.pieces p));
      place = rw (text-push c.pieces p, length-append, ← c.place) refl;
      these = rw (tokens-push 0 c.pieces p, zero-add, ← c.place, c.these) refl;
    }

-- ---- the answers

-- a text that is cut to its end has the tokens found
pub lexed : (d : Dialect) (text : List ℕ) (at : ℕ) (tokens : List Token) → CutTo d text at tokens → length text ≤ at → Lexes d text tokens
lexed d text at tokens c past =
    let none : length c.after ≡ 0 = omega (arith, ap length c.whole, length-append (text_of c.pieces) c.after, c.place) in
    let empty : c.after ≡ [] = nil_from_length c.after none in
    record {
      pieces = c.pieces;
      cut = subst (λ (bs : List ℕ). AreCut d c.pieces bs) empty c.cut;
      whole = c.whole ∙ ap (λ (bs : List ℕ). text_of c.pieces ++ bs) empty ∙ append-nil (text_of c.pieces);
      these = c.these;
    }

stop-at : (d : Dialect) (text : List ℕ) (at : ℕ) (pieces : List Piece) (after : List ℕ) → AreCut d pieces after → text ≡ text_of pieces ++ after → at ≡ length (text_of pieces) → 0 < length after → Ends d after → StopsAt d text at
stop-at d text at pieces [] cut whole place some e = absurd (omega arith)
stop-at d text at pieces (b ∷ after) cut whole place some e = record { pieces = pieces; byte = b; after = after; cut = cut; forbidden = e; whole = whole; place = place }

-- where no piece is found before the end, the text stops there
pub stopped : (d : Dialect) (text : List ℕ) (at : ℕ) (tokens : List Token) → CutTo d text at tokens → at < length text → first_piece d (drop at text) ≡ None → StopsAt d text at
stopped d text at tokens c lt none =
    let rest : drop at text ≡ c.after = ap (drop at) c.whole ∙ drop_at (text_of c.pieces) c.after at (sym c.place) in
    stop-at d text at c.pieces c.after c.cut c.whole c.place (omega (arith, ap length c.whole, length-append (text_of c.pieces) c.after, c.place)) (ends d c.after (ap (first_piece d) (sym rest) ∙ none))

-- a text has one list of tokens
pub only_tokens : (d : Dialect) (text : List ℕ) (ts us : List Token) → Lexes d text ts → Lexes d text us → ts ≡ us
only_tokens d text ts us a b =
    let e = one_cut d a.pieces b.pieces [] [] a.cut b.cut (none-at-end d) (none-at-end d) (append-nil (text_of a.pieces) ∙ sym a.whole ∙ b.whole ∙ sym (append-nil (text_of b.pieces))) in
    a.these ∙ ap (tokens_from 0) e.0 ∙ sym b.these

-- a text that has tokens does not stop at a forbidden byte
pub not_both : (d : Dialect) (text : List ℕ) (ts : List Token) (at : ℕ) → Lexes d text ts → StopsAt d text at → ⊥
not_both d text ts at a b =
    let e = one_cut d a.pieces b.pieces [] (b.byte ∷ b.after) a.cut b.cut (none-at-end d) (none-at-forbidden d b.byte b.after b.forbidden) (append-nil (text_of a.pieces) ∙ sym a.whole ∙ b.whole) in
    let apart : [] ≡ b.byte ∷ b.after = e.1 in
    cc

-- a text stops at one place only
pub only_stop : (d : Dialect) (text : List ℕ) (at place : ℕ) → StopsAt d text at → StopsAt d text place → at ≡ place
only_stop d text at place a b =
    let e = one_cut d a.pieces b.pieces (a.byte ∷ a.after) (b.byte ∷ b.after) a.cut b.cut (none-at-forbidden d a.byte a.after a.forbidden) (none-at-forbidden d b.byte b.after b.forbidden) (sym a.whole ∙ b.whole) in
    a.place ∙ ap (λ (ps : List Piece). length (text_of ps)) e.0 ∙ sym b.place

-- ---- what a mapped option came from

-- what is nothing after a function was nothing before
pub map_none : {A B : Type 0} (f : A → B) (o : Option A) → None ≡ option_map f o → o ≡ None
map_none f None e = refl
map_none f (Some x) e = absurd cc

-- what is something after a function was something before
pub map_some : {A B : Type 0} (f : A → B) (o : Option A) (y : B) → Some y ≡ option_map f o → (x : A) × (o ≡ Some x) × (y ≡ f x)
map_some f None y e = absurd cc
map_some f (Some x) y e = (x, refl, cc)

-- ---- the loop, as the code knows what stands at the front

abbrev Sees : Dialect → List ℕ → ℕ → Option (ℕ × Option TokenKind) → Type 0
Sees d text at r = r ≡ option_map length_and_kind (first_piece d (take (length text - at) (drop at text)))

-- where the scanner sees no piece before the end, the text stops there
pub stops : (d : Dialect) (text : List ℕ) (at : ℕ) (tokens : List Token) (r : Option (ℕ × Option TokenKind)) → CutTo d text at tokens → at < length text → Sees d text at r → r ≡ None → StopsAt d text at
stops d text at tokens r c lt s none =
    stopped d text at tokens c lt (ap (first_piece d) (sym (take_rest text at)) ∙ map_none length_and_kind _ (sym none ∙ s))

-- a piece that the scanner sees is cut off, with its token
pub goes_on : (d : Dialect) (text : List ℕ) (at : ℕ) (tokens : List Token) (r : Option (ℕ × Option TokenKind)) (len : ℕ) (kind : Option TokenKind) → CutTo d text at tokens → Sees d text at r → r ≡ Some (len, kind)
    → CutTo d text (at + len) (tokens ++ token_at at (at + len) kind)
goes_on d text at tokens r len kind c s e =
    let m = map_some length_and_kind (first_piece d (take (length text - at) (drop at text))) (len, kind) (sym e ∙ s) in
    let n = step d text at tokens m.0.0 m.0.1 c (ap (first_piece d) (sym (take_rest text at)) ∙ m.1) in
    subst (λ (x : ℕ × Option TokenKind). CutTo d text (at + x.0) (tokens ++ token_at at (at + x.0) x.1)) (sym m.2) n

-- ---- spans

spans-from : (from at len : ℕ) (ts : List Token) → from ≤ at → AreSpans at len ts → AreSpans from len ts
spans-from from at len [] le h = omega (arith, h)
spans-from from at len (t ∷ ts) le h = (omega (arith, h.0), h.1, h.2)

some-bytes : (d : Dialect) (p : Piece) (after : List ℕ) (k : TokenKind) → IsPiece d p after → kind_of p ≡ Some k → 0 < length (piece_text p)
some-bytes d (blank b) after k h e = omega arith
some-bytes d (comment bytes) after k h e = omega arith
some-bytes d (word bytes) after k h e = h.0
some-bytes d open_bracket after k h e = omega arith
some-bytes d close_bracket after k h e = omega arith
some-bytes d equals_sign after k h e = omega arith

spans-of : (d : Dialect) (at : ℕ) (ps : List Piece) (after : List ℕ) → AreCut d ps after → AreSpans at (at + length (text_of ps)) (tokens_from at ps)
spans-of d at [] after h = omega arith
spans-of d at (p ∷ ps) after h =
    let len : at + length (piece_text p) + length (text_of ps) ≡ at + length (text_of (p ∷ ps)) = omega (arith, length-append (piece_text p) (text_of ps)) in
    let rest : AreSpans (at + length (piece_text p)) (at + length (text_of (p ∷ ps))) (tokens_from (at + length (piece_text p)) ps) =
    subst (λ (n : ℕ). AreSpans (at + length (piece_text p)) n (tokens_from (at + length (piece_text p)) ps)) len (spans-of d (at + length (piece_text p)) ps after h.1) in
    by-kind (kind_of p) refl rest
  where
    by-kind : (o : Option TokenKind) → kind_of p ≡ o → AreSpans (at + length (piece_text p)) (at + length (text_of (p ∷ ps))) (tokens_from (at + length (piece_text p)) ps)
        → AreSpans at (at + length (text_of (p ∷ ps))) (token_at at (at + length (piece_text p)) o ++ tokens_from (at + length (piece_text p)) ps)
    by-kind None e rest = spans-from at (at + length (piece_text p)) _ _ (omega arith) rest
    by-kind (Some k) e rest = (omega arith, omega (arith, some-bytes d p (text_of ps ++ after) k h.0 e), rest)

-- tokens stand in the order of the text without overlapping
pub spans : (d : Dialect) (text : List ℕ) (ts : List Token) → Lexes d text ts → AreSpans 0 (length text) ts
spans d text ts l = rw (l.whole, l.these) (subst (λ (n : ℕ). AreSpans 0 n (tokens_from 0 l.pieces)) (zero-add (length (text_of l.pieces))) (spans-of d 0 l.pieces [] l.cut))

-- ---- slices

within-from : (from len : ℕ) (ts : List Token) → AreSpans from len ts → (from ≤ len) × All (IsWithin len) ts
within-from from len [] h = (h, All-nil (IsWithin len))
within-from from len (t ∷ ts) h =
    let rest = within-from t.end len ts h.2 in
    (omega (arith, h.0, h.1, rest.0), All-cons (IsWithin len) t ts (omega (arith, h.1), rest.0) rest.1)

-- each token is within the text
pub within : (d : Dialect) (text : List ℕ) (ts : List Token) → Lexes d text ts → All (IsWithin (length text)) ts
within d text ts l = (within-from 0 (length text) ts (spans d text ts l)).1

-- two ways to cut a whole text have the same pieces
pub same_pieces : (d : Dialect) (ps qs : List Piece) → AreCut d ps [] → AreCut d qs [] → text_of ps ≡ text_of qs → ps ≡ qs
same_pieces d ps qs a b e = (one_cut d ps qs [] [] a b (none-at-end d) (none-at-end d) (append-nil (text_of ps) ∙ e ∙ sym (append-nil (text_of qs)))).0
