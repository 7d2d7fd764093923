-- Words and numbers are read exactly where they are written so.
use Rattle.std.proofs.Common.{◌≡◌, ℕ, ◌+◌, ◌^◌, ◌<◌, ◌≤◌, ◌==◌, ◌&&◌, nat_lt, Bool, true, false, cond, inl, inr, List, [], ◌∷◌, ◌++◌, length, get_or, drop, map, decimal, Option, Some, None, refl, sym, ap, subst, ◌∙◌, append_assoc, length-append, arith}
use Rattle.std.specs.Option.{option_map, MatchOption}
use Rattle.std.specs.Prelude.{◌⊎◌}
use Rattle.std.specs.Borrow.{Bor}
use Rattle.std.specs.Int.{IsInRange}
use Rattle.std.specs.List.{AllByRecursion}
use Rattle.std.specs.Str.{bytes_eq}
use Rattle.std.specs.Str.Parse.{AllDigits, digits_value}
use Rattle.std.proofs.lemmas.Bool.{ne_eqb, eqb-true, eq-eqb, cases_Bool, and_parts, and_from, ltb-true, lt-ltb, true≢false}
use Rattle.std.proofs.lemmas.List.{append-nil, drop_more, drop_all}
use Rattle.std.proofs.lemmas.Slice.Eq.{bytes_eq-Decides}
use Rattle.std.proofs.lemmas.Fmt.{decimal_is_IsNumeral_wide}
use Rattle.std.proofs.lemmas.Str.Parse.{digit_from_value}
use Rattle.plan_tokens.specs.Words.{◌>>=◌, numerals, behind, onto_words, words_of, each, read_by, number_of, numbers_behind, numbers_of_words, numbers_of}
use Rattle.plan_tokens.specs.Cuts.{Lacks, StartsWith, IsCutAt}

-- ---- options

-- what two steps of reading give, each of them gave
pub then-some : {A B : Type 0} (o : Option A) (f : A → Option B) (y : B) → (o >>= f) ≡ Some y → (x : A) × (o ≡ Some x) × (f x ≡ Some y)
then-some None f y e = absurd cc
then-some (Some x) f y e = (x, refl, e)

-- what is given after a function was given before it
pub map-some : {A B : Type 0} (o : Option A) (f : A → B) (y : B) → option_map f o ≡ Some y → (x : A) × (o ≡ Some x) × (f x ≡ y)
map-some None f y e = absurd cc
map-some (Some x) f y e = (x, refl, cc)

-- ---- a word in front

-- behind a word that stands in front is the rest
pub behind_found : (word rest : List ℕ) → behind word (word ++ rest) ≡ Some rest
unfolding behind
behind_found [] rest = refl
behind_found (w ∷ word) rest = rw (eq-eqb w w refl) (behind_found word rest)

-- where a rest is found behind a word, the word stands in front
pub behind_takes : (word bytes rest : List ℕ) → behind word bytes ≡ Some rest → bytes ≡ word ++ rest
unfolding behind
behind_takes [] bytes rest e = cc
behind_takes (w ∷ word) [] rest e = absurd cc
behind_takes (w ∷ word) (b ∷ bytes) rest e =
    elim (cases_Bool (b == w)) [
      | inl t ↦ (let same : b ≡ w = eqb-true b w t in ap (λ c. c ∷ bytes) same ∙ ap (λ bs. w ∷ bs) (behind_takes word bytes rest (rw t at e)))
      | inr f ↦ (let bad = rw f at e in absurd cc)
    ]

-- what a slice's `strip_prefix` says
pub behind_is : (word bytes : List ℕ) (found : Option (Bor (List ℕ))) → MatchOption found ((rest : List ℕ) → bytes ≡ word ++ rest → ⊥) (λ x. bytes ≡ word ++ x.now) → option_map (λ x. x.now) found ≡ behind word bytes
behind_is word bytes (Some x) h = sym (ap (behind word) h ∙ behind_found word x.now)
behind_is word bytes None h = none (behind word bytes) refl
  where
    none : (o : Option (List ℕ)) → behind word bytes ≡ o → None ≡ behind word bytes
    none None e = sym e
    none (Some rest) e = absurd (h rest (behind_takes word bytes rest e))

-- ---- read by a guess

module _ (print : ℕ → List ℕ) (guess : List ℕ → ℕ) where
  -- bytes that are read are the print of what is read
  pub read_takes : (bytes : List ℕ) (n : ℕ) → read_by print guess bytes ≡ Some n → (n < 2 ^ 128) × (bytes ≡ print n)
  read_takes bytes n e = by (cases_Bool (nat_lt (guess bytes) (2 ^ 128) && bytes_eq bytes (print (guess bytes))))
    where
      by : ((nat_lt (guess bytes) (2 ^ 128) && bytes_eq bytes (print (guess bytes))) ≡ true) ⊎ ((nat_lt (guess bytes) (2 ^ 128) && bytes_eq bytes (print (guess bytes))) ≡ false) → (n < 2 ^ 128) × (bytes ≡ print n)
      by (inl t) =
          let both = and_parts (nat_lt (guess bytes) (2 ^ 128)) (bytes_eq bytes (print (guess bytes))) t in
          let is : Some (guess bytes) ≡ Some n = sym (ap (λ b. cond b (Some (guess bytes)) None) t) ∙ e in
          let same : guess bytes ≡ n = cc in
          (subst (λ k. k < 2 ^ 128) same (ltb-true (guess bytes) (2 ^ 128) both.0), subst (λ k. bytes ≡ print k) same ((bytes_eq-Decides bytes (print (guess bytes))).0 both.1))
      by (inr f) = (let is : None ≡ Some n = sym (ap (λ b. cond b (Some (guess bytes)) None) f) ∙ e in absurd cc)

  -- the print of a number is read as it
  pub read_found : ((n : ℕ) → n < 2 ^ 128 → guess (print n) ≡ n) → (bytes : List ℕ) (n : ℕ) → n < 2 ^ 128 → bytes ≡ print n → read_by print guess bytes ≡ Some n
  read_found right bytes n small e =
      let same : guess bytes ≡ n = ap guess e ∙ right n small in
      let test : (nat_lt (guess bytes) (2 ^ 128) && bytes_eq bytes (print (guess bytes))) ≡ true =
      and_from (nat_lt (guess bytes) (2 ^ 128)) (bytes_eq bytes (print (guess bytes))) (lt-ltb (guess bytes) (2 ^ 128) (subst (λ k. k < 2 ^ 128) (sym same) small)) ((bytes_eq-Decides bytes (print (guess bytes))).1 (e ∙ ap print (sym same))) in
      ap (λ b. cond b (Some (guess bytes)) None) test ∙ ap (λ k. Some k) same

  -- bytes that are no number's print are not read
  pub read_none : (bytes : List ℕ) → ((n : ℕ) → n < 2 ^ 128 → bytes ≡ print n → ⊥) → read_by print guess bytes ≡ None
  read_none bytes lost = by (read_by print guess bytes) refl
    where
      by : (o : Option ℕ) → read_by print guess bytes ≡ o → read_by print guess bytes ≡ None
      by None e = e
      by (Some n) e = (let k = read_takes bytes n e in absurd (lost n k.0 k.1))

-- ---- a number

-- a number of 128 bits is within the range of decimal
pub wide : (n : ℕ) → n < 2 ^ 128 → n < 10 ^ 64
wide n small = omega (arith, small)

-- the decimal of a number is digits
pub decimal_digits : (n : ℕ) → n < 2 ^ 128 → AllDigits 10 (decimal n)
decimal_digits n small = (decimal_is_IsNumeral_wide n (wide n small)).0.1

-- the decimal of a number has its value
pub decimal_value : (n : ℕ) → n < 2 ^ 128 → digits_value 10 (decimal n) ≡ n
decimal_value n small = (decimal_is_IsNumeral_wide n (wide n small)).1

-- bytes that are read as a number are its decimal
pub number_takes : (bytes : List ℕ) (n : ℕ) → number_of bytes ≡ Some n → (n < 2 ^ 128) × (bytes ≡ decimal n)
unfolding number_of
number_takes bytes n e = read_takes decimal (digits_value 10) bytes n e

-- the decimal of a number is read as it
pub number_found : (bytes : List ℕ) (n : ℕ) → n < 2 ^ 128 → bytes ≡ decimal n → number_of bytes ≡ Some n
unfolding number_of
number_found bytes n small e = read_found decimal (digits_value 10) decimal_value bytes n small e

-- bytes that are no decimal are not read as a number
pub number_none : (bytes : List ℕ) → ((n : ℕ) → n < 2 ^ 128 → bytes ≡ decimal n → ⊥) → number_of bytes ≡ None
unfolding number_of
number_none bytes lost = read_none decimal (digits_value 10) bytes lost

-- bytes that are equal to the decimal of the value at hand are read as it
pub number_yes : (bytes : List ℕ) (v : ℕ) → v < 2 ^ 128 → bytes_eq bytes (decimal v) ≡ true → Some v ≡ number_of bytes
number_yes bytes v small e = sym (number_found bytes v small ((bytes_eq-Decides bytes (decimal v)).0 e))

-- where digits are read as nothing, or as a number with another decimal
pub number_lost : (bytes : List ℕ) → (AllDigits 10 bytes → digits_value 10 bytes < 2 ^ 128 → None ≡ Some (digits_value 10 bytes)) → None ≡ number_of bytes
number_lost bytes lost = sym (number_none bytes (λ n small e. (let bad : None ≡ Some (digits_value 10 bytes) = lost (subst (AllDigits 10) (sym e) (decimal_digits n small)) (subst (λ k. k < 2 ^ 128) (sym (ap (digits_value 10) e ∙ decimal_value n small)) small) in absurd cc)))

-- bytes that differ from the decimal of the value at hand are not read
pub number_no : (bytes : List ℕ) (v : ℕ) → (AllDigits 10 bytes → digits_value 10 bytes < 2 ^ 128 → Some v ≡ Some (digits_value 10 bytes)) → bytes_eq bytes (decimal v) ≡ false → None ≡ number_of bytes
number_no bytes v read f = sym (number_none bytes (λ n small e. other n small e))
  where
    other : (n : ℕ) → n < 2 ^ 128 → bytes ≡ decimal n → ⊥
    other n small e =
        let worth : digits_value 10 bytes ≡ n = ap (digits_value 10) e ∙ decimal_value n small in
        let is : Some v ≡ Some (digits_value 10 bytes) = read (subst (AllDigits 10) (sym e) (decimal_digits n small)) (subst (λ k. k < 2 ^ 128) (sym worth) small) in
        let same : v ≡ digits_value 10 bytes = cc in
        true≢false (sym ((bytes_eq-Decides bytes (decimal v)).1 (e ∙ ap decimal (sym worth ∙ sym same))) ∙ f)

-- digits have no such byte
pub digits-lack : (at : ℕ) (ds : List ℕ) → (at < 48) ⊎ (57 < at) → AllDigits 10 ds → Lacks at ds
digits-lack at [] far a = tt
digits-lack at (c ∷ ds) far a = ((λ e. no c far (digit_from_value c a.0) e), digits-lack at ds far a.1)
  where
    no : (c : ℕ) → (at < 48) ⊎ (57 < at) → IsInRange 48 57 c → c ≡ at → ⊥
    no c (inl lt) range e = absurd (omega arith)
    no c (inr gt) range e = absurd (omega arith)

-- ---- words

no-blank : (b : ℕ) (w : List ℕ × List (List ℕ)) → (b ≡ 32 → ⊥) → onto_words b w ≡ (b ∷ w.0, w.1)
no-blank b w h = rw (ne_eqb b 32 h) refl

words-front : (word rest : List ℕ) → Lacks 32 word → words_of (word ++ rest) ≡ (word ++ (words_of rest).0, (words_of rest).1)
unfolding words_of
words-front [] rest h = refl
words-front (b ∷ word) rest h = ap (onto_words b) (words-front word rest h.1) ∙ no-blank b (word ++ (words_of rest).0, (words_of rest).1) h.0

no-front : (rest : List ℕ) → StartsWith 32 rest → (words_of rest).0 ≡ []
unfolding words_of
no-front [] h = refl
no-front (b ∷ rest) h = rw h refl

-- a blank and a word
pub words_step : (word rest : List ℕ) → Lacks 32 word → StartsWith 32 rest → words_of (32 ∷ (word ++ rest)) ≡ ([], word ∷ (words_of rest).1)
unfolding words_of
words_step word rest h k =
    ap (onto_words 32) (words-front word rest h)
    ∙ ap (λ w. onto_words 32 (w, (words_of rest).1)) (ap (λ f. word ++ f) (no-front rest k) ∙ append-nil word)

-- ---- each item

-- items that are read one by one are the prints of what is read
pub each_takes : {A B : Type 0} (f : A → Option B) (Good : B → Type 0) (print : B → A) → ((x : A) (y : B) → f x ≡ Some y → Good y × (x ≡ print y))
    → (xs : List A) (ys : List B) → each f xs ≡ Some ys → AllByRecursion Good ys × (xs ≡ map print ys)
unfolding each
each_takes f Good print law [] ys e = (let is : [] ≡ ys = cc in (subst (AllByRecursion Good) is tt, ap (map print) is))
each_takes {A} {B} f Good print law (x ∷ xs) ys e =
    let (y, first, rest) = then-some (f x) (λ y. option_map (λ ys. y ∷ ys) (each f xs)) ys e in
    let (more, later, is) = map-some (each f xs) (λ ys. y ∷ ys) ys rest in
    let here = law x y first in
    let there = each_takes f Good print law xs more later in
    (subst (AllByRecursion Good) is (here.0, there.0), (ap (λ x. x ∷ xs) here.1 ∙ ap (λ xs. print y ∷ xs) there.1) ∙ ap (map print) is)

-- prints are read one by one as what they print
pub each_found : {A B : Type 0} (f : A → Option B) (Good : B → Type 0) (print : B → A) → ((y : B) → Good y → f (print y) ≡ Some y)
    → (ys : List B) → AllByRecursion Good ys → each f (map print ys) ≡ Some ys
unfolding each
each_found f Good print law [] h = refl
each_found f Good print law (y ∷ ys) h = rw (law y h.0, each_found f Good print law ys h.1) refl

-- a loop over the items
abbrev pub with_front : {A : Type 0} → List A → Option (List A) → Option (List A)
with_front front o = option_map (λ ys. front ++ ys) o

-- ---- numbers

-- a list of numbers is its first word and the list behind it
pub numbers_step : (word rest : List ℕ) → Lacks 32 word → StartsWith 32 rest → numbers_of (32 ∷ (word ++ rest)) ≡ (number_of word >>= λ n. option_map (λ ns. n ∷ ns) (numbers_of rest))
unfolding numbers_of each
numbers_step word rest h k =
    ap numbers_of_words (words_step word rest h k)
    ∙ ap (λ w. number_of word >>= λ n. option_map (λ ns. n ∷ ns) w) (sym (ap (λ f. numbers_behind f (words_of rest).1) (no-front rest k)))

starts-numerals : (ns : List ℕ) → StartsWith 32 (numerals ns)
starts-numerals [] = tt
starts-numerals (n ∷ ns) = refl

no-numbers : numbers_of [] ≡ Some []
unfolding numbers_of words_of each
no-numbers = refl

-- the numerals of a list are read as it
pub numbers_found : (ns : List ℕ) → AllByRecursion (λ n. n < 2 ^ 128) ns → numbers_of (numerals ns) ≡ Some ns
numbers_found [] h = no-numbers
numbers_found (n ∷ ns) h =
    numbers_step (decimal n) (numerals ns) (digits-lack 32 (decimal n) (inl (omega arith)) (decimal_digits n h.0)) (starts-numerals ns)
    ∙ (rw (number_found (decimal n) n h.0 refl, numbers_found ns h.1) refl)

-- words, a blank in front of each
abbrev joined : List (List ℕ) → List ℕ
joined [] = []
joined (word ∷ words) = 32 ∷ (word ++ joined words)

words-joined : (bytes : List ℕ) → bytes ≡ (words_of bytes).0 ++ joined (words_of bytes).1
unfolding words_of
words-joined [] = refl
words-joined (b ∷ bytes) =
    elim (cases_Bool (b == 32)) [
      | inl t ↦ rw t (ap (λ c. c ∷ bytes) (eqb-true b 32 t) ∙ ap (λ bs. 32 ∷ bs) (words-joined bytes))
      | inr f ↦ rw f (ap (λ bs. b ∷ bs) (words-joined bytes))
    ]

joined-decimals : (ns : List ℕ) → joined (map decimal ns) ≡ numerals ns
joined-decimals [] = refl
joined-decimals (n ∷ ns) = ap (λ bs. 32 ∷ (decimal n ++ bs)) (joined-decimals ns)

-- a list of length 0 is empty
pub no-length : {A : Type 0} (xs : List A) → (length xs == 0) ≡ true → xs ≡ []
no-length [] e = refl
no-length (x ∷ xs) e = absurd (omega (arith, eqb-true (length (x ∷ xs)) 0 e))

behind-nothing : (front : List ℕ) (words : List (List ℕ)) (ns : List ℕ) → numbers_behind front words ≡ Some ns → (front ≡ []) × (each number_of words ≡ Some ns)
behind-nothing [] words ns e = (refl, e)
behind-nothing (b ∷ front) words ns e = absurd cc

-- bytes that are read as a list of numbers are its numerals
pub numbers_takes : (bytes : List ℕ) (ns : List ℕ) → numbers_of bytes ≡ Some ns → AllByRecursion (λ n. n < 2 ^ 128) ns × (bytes ≡ numerals ns)
unfolding numbers_of
numbers_takes bytes ns e =
    let (none, all) = behind-nothing (words_of bytes).0 (words_of bytes).1 ns e in
    let (small, is) = each_takes number_of (λ n. n < 2 ^ 128) decimal number_takes (words_of bytes).1 ns all in
    (small, words-joined bytes ∙ ap (λ f. f ++ joined (words_of bytes).1) none ∙ ap joined is ∙ joined-decimals ns)

-- ---- the loop over the numbers of a line

-- an item that is read goes to the end of what was read before
pub fronts : {A : Type 0} (front : List A) (x : A) (o : Option (List A)) → with_front front (option_map (λ ys. x ∷ ys) o) ≡ with_front (front ++ x ∷ []) o
fronts front x None = refl
fronts front x (Some ys) = ap (λ zs. Some zs) (sym (append_assoc front (x ∷ []) ys))

-- the loop reads one number more
pub numbers_more : (front after word rest : List ℕ) (n : ℕ) → IsCutAt 32 after word rest → number_of word ≡ Some n → with_front front (numbers_of (32 ∷ after)) ≡ with_front (front ++ n ∷ []) (numbers_of rest)
numbers_more front after word rest n k e =
    ap (λ bs. with_front front (numbers_of (32 ∷ bs))) k.parts
    ∙ ap (with_front front) (numbers_step word rest k.none_before k.begins ∙ ap (λ o. o >>= λ n. option_map (λ ns. n ∷ ns) (numbers_of rest)) e)
    ∙ fronts front n (numbers_of rest)

-- the loop stops at a word that is no number
pub numbers_stop : (front after word rest : List ℕ) → IsCutAt 32 after word rest → number_of word ≡ None → with_front front (numbers_of (32 ∷ after)) ≡ None
numbers_stop front after word rest k e =
    ap (λ bs. with_front front (numbers_of (32 ∷ bs))) k.parts
    ∙ ap (with_front front) (numbers_step word rest k.none_before k.begins ∙ ap (λ o. o >>= λ n. option_map (λ ns. n ∷ ns) (numbers_of rest)) e)

-- no bytes, no numbers more
pub numbers_end : (front rest : List ℕ) → length rest ≡ 0 → with_front front (numbers_of rest) ≡ Some front
numbers_end front [] none = ap (with_front front) no-numbers ∙ ap (λ ns. Some ns) (append-nil front)
numbers_end front (b ∷ rest) none = absurd (omega arith)

-- bytes that no blank begins are no numbers
other-byte : (b : ℕ) (w : List ℕ × List (List ℕ)) → (b == 32) ≡ false → numbers_of_words (onto_words b w) ≡ None
other-byte b w f = rw f refl

no-front-blank : (b : ℕ) (rest : List ℕ) → None ≡ behind (32 ∷ []) (b ∷ rest) → (b == 32) ≡ false
unfolding behind
no-front-blank b rest h = by (b == 32) h
  where
    by : (t : Bool) → None ≡ cond t (Some rest) None → t ≡ false
    by true e = absurd cc
    by false e = refl

-- the loop stops at a byte that is no blank
pub numbers_none : (front rest : List ℕ) → 0 < length rest → None ≡ behind (32 ∷ []) rest → with_front front (numbers_of rest) ≡ None
unfolding numbers_of words_of
numbers_none front [] some h = absurd (omega arith)
numbers_none front (b ∷ rest) some h = ap (with_front front) (other-byte b (words_of rest) (no-front-blank b rest h))

-- the bytes behind a blank
pub blank_takes : (rest after : List ℕ) → Some after ≡ behind (32 ∷ []) rest → rest ≡ 32 ∷ after
blank_takes rest after e = behind_takes (32 ∷ []) rest after (sym e)

-- each word of the loop leaves fewer bytes
pub blank_shorter : (rest after word left : List ℕ) → Some after ≡ behind (32 ∷ []) rest → IsCutAt 32 after word left → length left < length rest
blank_shorter rest after word left e k = omega (arith, ap length (blank_takes rest after e), ap length k.parts, length-append word left)

-- a blank and a number behind it are read
pub blank_more : (front rest after word left : List ℕ) (n : ℕ) → Some after ≡ behind (32 ∷ []) rest → IsCutAt 32 after word left → Some n ≡ number_of word → with_front front (numbers_of rest) ≡ with_front (front ++ n ∷ []) (numbers_of left)
blank_more front rest after word left n e k m = ap (λ bs. with_front front (numbers_of bs)) (blank_takes rest after e) ∙ numbers_more front after word left n k (sym m)

-- a blank with no number behind it is not read
pub blank_stop : (front rest after word left : List ℕ) → Some after ≡ behind (32 ∷ []) rest → IsCutAt 32 after word left → None ≡ number_of word → with_front front (numbers_of rest) ≡ None
blank_stop front rest after word left e k m = ap (λ bs. with_front front (numbers_of bs)) (blank_takes rest after e) ∙ numbers_stop front after word left k (sym m)

-- nothing before leaves what is read
pub with_nothing : {A : Type 0} (o : Option (List A)) → with_front [] o ≡ o
with_nothing None = refl
with_nothing (Some xs) = refl

-- ---- the loop over the items of a list

-- the loop over items reads one more
pub each_more : {A B : Type 0} (f : A → Option B) (front : List B) (xs : List A) (i : ℕ) (d : A) (y : B) → i < length xs → f (get_or xs i d) ≡ Some y → with_front front (each f (drop i xs)) ≡ with_front (front ++ y ∷ []) (each f (drop (i + 1) xs))
unfolding each
each_more f front xs i d y lt e =
    ap (λ zs. with_front front (each f zs)) (drop_more xs i d lt)
    ∙ ap (λ o. with_front front (o >>= λ y. option_map (λ ys. y ∷ ys) (each f (drop (i + 1) xs)))) e
    ∙ fronts front y (each f (drop (i + 1) xs))

-- the loop over items stops where one is not read
pub each_stop : {A B : Type 0} (f : A → Option B) (front : List B) (xs : List A) (i : ℕ) (d : A) → i < length xs → f (get_or xs i d) ≡ None → with_front front (each f (drop i xs)) ≡ None
unfolding each
each_stop f front xs i d lt e =
    ap (λ zs. with_front front (each f zs)) (drop_more xs i d lt)
    ∙ ap (λ o. with_front front (o >>= λ y. option_map (λ ys. y ∷ ys) (each f (drop (i + 1) xs)))) e

-- after the last item, all are read
pub each_end : {A B : Type 0} (f : A → Option B) (front : List B) (xs : List A) (i : ℕ) → length xs ≤ i → with_front front (each f (drop i xs)) ≡ Some front
unfolding each
each_end f front xs i ge = ap (λ zs. with_front front (each f zs)) (drop_all i xs ge) ∙ ap (λ ns. Some ns) (append-nil front)
