-- What stands behind the first line of a text.
use Rattle.std.proofs.Common.{◌≡◌, ℕ, ◌≤◌, true, false, List, [], ◌∷◌, ◌++◌, length, drop, refl, sym, ap, ◌∙◌, arith}
use Rattle.std.specs.List.{AllByRecursion}
use Rattle.std.proofs.lemmas.List.{drop_at, length-append}
use Rattle.std.proofs.lemmas.Bool.{eqb-true}
use Rattle.snd_lexer.specs.Pieces.{front, behind}
use Rattle.snd_lexer.specs.Cutting.{EndsRun}
use Rattle.snd_lexer.proofs.Cuts.{front-run, front-behind, run-front}
use Rattle.snd_reader.specs.Header.{is_line_blank, ends_line, HasHeader}

no-blank : (byte : ℕ) → byte ≡ 10 → is_line_blank byte ≡ false
no-blank byte e = rw e refl

ends-run : (after : List ℕ) → ends_line after ≡ true → EndsRun is_line_blank after
ends-run [] k = tt
ends-run (b ∷ after) k = no-blank b (eqb-true b 10 k)

front-all : (bytes after : List ℕ) → AllByRecursion (λ b. is_line_blank b ≡ true) bytes → ends_line after ≡ true → front is_line_blank (bytes ++ after) ≡ bytes
front-all bytes after h k = front-run is_line_blank bytes after (h, ends-run after k)

-- the line behind the header, without its blanks
abbrev pub past : List ℕ → List ℕ
past line = drop (length (front is_line_blank line)) line

past-is : (line : List ℕ) → line ≡ front is_line_blank line ++ past line
past-is line = front-behind is_line_blank line ∙ ap (λ (bs : List ℕ). front is_line_blank line ++ bs)
    (sym (ap (drop (length (front is_line_blank line))) (front-behind is_line_blank line) ∙ drop_at (front is_line_blank line) (behind is_line_blank line) (length (front is_line_blank line)) refl))

-- a text has its header line where it begins with the header and only blanks follow on that line
pub has_header : (header text line : List ℕ) → text ≡ header ++ line → ends_line (past line) ≡ true → HasHeader header text (past line)
has_header header text line e k = record {
  blanks = front is_line_blank line;
  whole = e ∙ ap (λ (bs : List ℕ). header ++ bs) (past-is line);
  are_blank = (run-front is_line_blank line).0;
  line_ends = k;
}

same-behind : (header a b : List ℕ) → header ++ a ≡ header ++ b → a ≡ b
same-behind header a b e = sym (drop_at header a (length header) refl) ∙ ap (drop (length header)) e ∙ drop_at header b (length header) refl

-- what a header leaves is what stands behind the blanks of the line
pub only_past : (header text line rest : List ℕ) → text ≡ header ++ line → HasHeader header text rest → past line ≡ rest
only_past header text line rest e h =
    let is : line ≡ h.blanks ++ rest = same-behind header line (h.blanks ++ rest) (sym e ∙ h.whole) in
    let run : front is_line_blank line ≡ h.blanks = ap (front is_line_blank) is ∙ front-all h.blanks rest h.are_blank h.line_ends in
    ap (λ (n : List ℕ). drop (length n) line) run ∙ ap (drop (length h.blanks)) is ∙ drop_at h.blanks rest (length h.blanks) refl

-- a text that begins with the header has no header line where more than blanks follows on that line
pub not_ended : (header text line : List ℕ) → text ≡ header ++ line → ends_line (past line) ≡ false → (rest : List ℕ) → HasHeader header text rest → ⊥
not_ended header text line e k rest h =
    let bad : false ≡ true = sym k ∙ ap ends_line (only_past header text line rest e h) ∙ h.line_ends in
    absurd cc

-- a text that does not begin with the header has no header line
pub no_front : (header text : List ℕ) → ((rest : List ℕ) → text ≡ header ++ rest → ⊥) → (rest : List ℕ) → HasHeader header text rest → ⊥
no_front header text lost rest h = lost (h.blanks ++ rest) h.whole

-- a text has one rest behind its header
pub one_rest : (header text rest other : List ℕ) → HasHeader header text rest → HasHeader header text other → rest ≡ other
one_rest header text rest other h k = sym (only_past header text (h.blanks ++ rest) rest h.whole h) ∙ only_past header text (h.blanks ++ rest) other h.whole k

-- the rest is no longer than the text
pub rest_within : (header text rest : List ℕ) → HasHeader header text rest → length rest ≤ length text
rest_within header text rest h = omega (arith, ap length h.whole, length-append header (h.blanks ++ rest), length-append h.blanks rest)
