-- Where bytes are cut, and the first line of a text.
use Rattle.std.proofs.Common.{◌≡◌, ℕ, ◌+◌, ◌-◌, ◌<◌, ◌≤◌, ◌==◌, true, false, cond, Some, None, inl, inr, map, append_assoc, List, [], ◌∷◌, ◌++◌, length, get_or, take, drop, refl, sym, ap, subst, ◌∙◌, arith}
use Rattle.std.specs.Borrow.{Bor}
use Rattle.std.specs.Option.{MatchOption}
use Rattle.std.specs.Prelude.{Option, nat_eq}
use Rattle.std.specs.Cmp.Lexicographic.{pointwise}
use Rattle.std.proofs.lemmas.Slice.Eq.{strip_prefix_is}
use Rattle.std.proofs.lemmas.Bool.Decides.{Decides-eqb}
use Rattle.std.specs.List.{AllByRecursion}
use Rattle.std.proofs.lemmas.Bool.{ne_eqb, eqb-true, cases_Bool}
use Rattle.std.proofs.lemmas.List.{take_more, drop_more, drop_all, take-append-drop, take_all, append-nil}
use Rattle.plan_tokens.specs.Lines.{Line, whole, unfinished, text_of, onto, lines_of}
use Rattle.plan_tokens.specs.Words.{before}
use Rattle.plan_tokens.specs.Cuts.{found_now, Lacks, StartsWith, IsCutAt, HasNoLine}

-- two texts that lack a byte lack it together
pub lacks-append : (at : ℕ) (xs ys : List ℕ) → Lacks at xs → Lacks at ys → Lacks at (xs ++ ys)
lacks-append at [] ys h k = k
lacks-append at (x ∷ xs) ys h k = (h.0, lacks-append at xs ys h.1 k)

-- one byte more that is not the one looked for
pub lacks_more : (at : ℕ) (bytes : List ℕ) (i : ℕ) → i < length bytes → (get_or bytes i 0 ≡ at → ⊥) → Lacks at (take i bytes) → Lacks at (take (i + 1) bytes)
lacks_more at bytes i lt ne h = subst (Lacks at) (sym (take_more bytes i 0 lt)) (lacks-append at (take i bytes) (get_or bytes i 0 ∷ []) h (ne, tt))

-- bytes are cut at the first place of the byte
pub cut_found : (at : ℕ) (bytes front rest : List ℕ) (i : ℕ) → i < length bytes → get_or bytes i 0 ≡ at → Lacks at (take i bytes) → front ≡ take i bytes → rest ≡ drop i bytes → IsCutAt at bytes front rest
cut_found at bytes front rest i lt e h f r = record {
  parts = sym (take-append-drop i bytes) ∙ ap (λ xs. xs ++ drop i bytes) (sym f) ∙ ap (λ ys. front ++ ys) (sym r);
  none_before = subst (Lacks at) (sym f) h;
  begins = subst (StartsWith at) (sym (r ∙ drop_more bytes i 0 lt)) e;
}

-- bytes without the byte are cut at their end
pub cut_nowhere : (at : ℕ) (bytes front rest : List ℕ) (n k : ℕ) → length bytes ≤ n → length bytes ≤ k → Lacks at (take n bytes) → front ≡ take k bytes → rest ≡ drop k bytes → IsCutAt at bytes front rest
cut_nowhere at bytes front rest n k all whole_length h f r = record {
  parts = sym (take-append-drop k bytes) ∙ ap (λ xs. xs ++ drop k bytes) (sym f) ∙ ap (λ ys. front ++ ys) (sym r);
  none_before = subst (Lacks at) (take_all n bytes all ∙ sym (take_all k bytes whole_length) ∙ sym f) h;
  begins = subst (StartsWith at) (sym (r ∙ drop_all k bytes whole_length)) tt;
}

-- what a slice's `strip_prefix` says
pub strips : (bytes word : List ℕ) (r : Option (Bor (List ℕ))) → MatchOption r (pointwise nat_eq (take (length word) bytes) word ≡ false) (λ x. (pointwise nat_eq (take (length word) bytes) word ≡ true) × (x.now ≡ drop (length word) bytes) × (length x.now + length word ≡ length bytes))
    → MatchOption r ((rest : List ℕ) → bytes ≡ word ++ rest → ⊥) (λ x. bytes ≡ word ++ x.now)
strips bytes word r h = strip_prefix_is Decides-eqb bytes word r h

-- what a slice's `strip_suffix` says
pub strips_end : (bytes word : List ℕ) (r : Option (Bor (List ℕ)))
    → MatchOption r (pointwise nat_eq (drop (length bytes - length word) bytes) word ≡ false) (λ x. (pointwise nat_eq (drop (length bytes - length word) bytes) word ≡ true) × (x.now ≡ take (length bytes - length word) bytes) × (length x.now + length word ≡ length bytes))
    → found_now r ≡ before word bytes
unfolding before
strips_end bytes word None h = ap (λ t. cond t (Some (take (length bytes - length word) bytes)) None) (sym h)
strips_end bytes word (Some x) h = ap (λ y. Some y) h.1 ∙ ap (λ t. cond t (Some (take (length bytes - length word) bytes)) None) (sym h.0)

-- ---- lines

-- a text with a line feed has the line before it, and the lines behind it
pub whole_line : (body rest : List ℕ) → Lacks 10 body → lines_of (body ++ 10 ∷ rest) ≡ whole body ∷ lines_of rest
unfolding lines_of
whole_line [] rest h = refl
whole_line (b ∷ body) rest h = rw (ne_eqb b 10 h.0) (ap (onto b) (whole_line body rest h.1))

onto-none : (b : ℕ) (ls : List Line) → HasNoLine ls → HasNoLine (onto b ls)
onto-none b [] h = tt
onto-none b (whole body ∷ ls) h = absurd h
onto-none b (unfinished bytes ∷ ls) h = tt

-- a text without a line feed has no whole line
pub no_line : (bytes : List ℕ) → Lacks 10 bytes → HasNoLine (lines_of bytes)
unfolding lines_of
no_line [] h = tt
no_line (b ∷ bytes) h = rw (ne_eqb b 10 h.0) (onto-none b (lines_of bytes) (no_line bytes h.1))

text-onto : (b : ℕ) (ls : List Line) → text_of (onto b ls) ≡ b ∷ text_of ls
text-onto b [] = refl
text-onto b (whole body ∷ ls) = refl
text-onto b (unfinished bytes ∷ ls) = refl

-- the lines of a text are all of it
pub text_of_lines : (bytes : List ℕ) → text_of (lines_of bytes) ≡ bytes
unfolding lines_of
text_of_lines [] = refl
text_of_lines (b ∷ bytes) =
    elim (cases_Bool (b == 10)) [
      | inl e ↦ rw e (ap (λ bs. 10 ∷ bs) (text_of_lines bytes) ∙ ap (λ c. c ∷ bytes) (sym (eqb-true b 10 e)))
      | inr e ↦ rw e (text-onto b (lines_of bytes) ∙ ap (λ bs. b ∷ bs) (text_of_lines bytes))
    ]

-- what was cut at the line end
cut-line : (bytes body end : List ℕ) → IsCutAt 10 bytes body end → 0 < length end → lines_of bytes ≡ whole body ∷ lines_of (drop 1 end)
cut-line bytes body [] k some = absurd (omega arith)
cut-line bytes body (d ∷ rest) k some =
    ap lines_of (k.parts ∙ ap (λ c. body ++ c ∷ rest) k.begins) ∙ whole_line body rest k.none_before

-- the cut at the first line feed gives the first line
pub cut_line : (bytes body end rest : List ℕ) → IsCutAt 10 bytes body end → 0 < length end → rest ≡ drop 1 end → lines_of bytes ≡ whole body ∷ lines_of rest
cut_line bytes body end rest k some e = cut-line bytes body end k some ∙ ap (λ r. whole body ∷ lines_of r) (sym e)

-- a cut that finds no line feed shows that there is no whole line
pub cut_no_line : (bytes body end : List ℕ) → IsCutAt 10 bytes body end → length end ≡ 0 → HasNoLine (lines_of bytes)
cut_no_line bytes body [] k e = subst (λ bs. HasNoLine (lines_of bs)) (sym (k.parts ∙ append-nil body)) (no_line body k.none_before)
cut_no_line bytes body (d ∷ rest) k e = absurd (omega arith)

-- whole lines are the lines of their text
pub lines_of_text : (bodies : List (List ℕ)) (rest : List ℕ) → AllByRecursion (Lacks 10) bodies → lines_of (text_of (map whole bodies) ++ rest) ≡ map whole bodies ++ lines_of rest
lines_of_text [] rest h = refl
lines_of_text (body ∷ bodies) rest h =
    ap lines_of (append_assoc (body ++ 10 ∷ []) (text_of (map whole bodies)) rest ∙ append_assoc body (10 ∷ []) (text_of (map whole bodies) ++ rest))
    ∙ whole_line body (text_of (map whole bodies) ++ rest) h.0
    ∙ ap (λ ls. whole body ∷ ls) (lines_of_text bodies rest h.1)
