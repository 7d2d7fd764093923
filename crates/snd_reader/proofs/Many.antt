-- Lists of items are read by lawful readers too.
use Rattle.std.proofs.Common.{◌≡◌, ℕ, zero, suc, ◌<◌, List, [], ◌∷◌, ◌++◌, length, Option, Some, None, refl, sym, ap, subst, ◌∙◌, append_assoc, arith}
use Rattle.std.specs.Prelude.{Result, Ok, Err}
use Rattle.std.proofs.lemmas.List.{length-append}
use Rattle.snd_reader.specs.declared.fault.Complaint.{Complaint}
use Rattle.snd_reader.specs.declared.fault.Complaint.TheVariants.{Ended}
use Rattle.snd_reader.specs.Readers.{Placed, Stopped, Reader, ◌>>=◌, turn, turns, items}
use Rattle.snd_reader.specs.Forms.{Begins, AreItems, Items}
use Rattle.snd_reader.proofs.Lawful.{Says, Lawful, Taken, Local, read_as, stopped_at, ok-parts, err-parts}

-- where turns stop, with any number of turns left
abbrev Fixed : {S : Type 0} → (ℕ → Reader S) → List Placed → Complaint → List Placed → Type 0
Fixed r front c [] = (m : ℕ) → length front < m → r m front ≡ Err (c, [])
Fixed r front c (t ∷ after) = (m : ℕ) (others : List Placed) → length front < m → r m (front ++ (t ∷ others)) ≡ Err (c, t ∷ others)

record Halts {S : Type 0} (F : List Placed → S → Type 0) (r : ℕ → Reader S) (ts : List Placed) (c : Complaint) (rest : List Placed) : Type 0 where
  front : List Placed
  whole : ts ≡ front ++ rest
  begun : Begins F front
  alone : Fixed r front c rest

module _ {S H : Type 0} (head : S → Placed → Result (Option H) Complaint) (body : S → H → Reader S) (F : S → H → List Placed → S → Type 0)
    (law : (s : S) (h : H) → Lawful (F s h) (body s h)) (finish : (s : S) → (l : List Placed) × (x : S) × Items (Says head) F s l x) where
  abbrev turns_of : S → ℕ → Reader S
  turns_of s m = turns head body m s

  -- an item and the rest of a list of items make a list of items
  pub one-more : (n : ℕ) (s next x : S) (t : Placed) (h : H) (front rest l : List Placed) → head s t ≡ Ok (Some h) → F s h front next → AreItems (Says head) F n next rest x → l ≡ t ∷ (front ++ rest) → Items (Says head) F s l x
  unfolding AreItems
  one-more n s next x t h front rest l a f r e = (suc n, (t, h, front, next, rest, a, f, r, e))

  -- a token that ends a list is a list without items
  pub nothing-more : (s : S) (t : Placed) (l : List Placed) (x : S) → head s t ≡ Ok None → l ≡ t ∷ [] → x ≡ s → Items (Says head) F s l x
  unfolding AreItems
  nothing-more s t l x a e b = (zero, (t, a, e, b))

  -- ---- what turns take

  takes-turn : (n : ℕ) (s : S) (t : Placed) (ts : List Placed) (x : S) (rest : List Placed) (j : Result (Option H) Complaint)
      → ((next : S) (us : List Placed) → turns head body n next us ≡ read_as x rest → Taken (Items (Says head) F next) us x rest)
      → head s t ≡ j → turn body (turns head body n) s t ts j ≡ read_as x rest → Taken (Items (Says head) F s) (t ∷ ts) x rest
  takes-turn n s t ts x rest (Ok None) later e r =
      let p = ok-parts s x ts rest r in
      record { front = t ∷ []; whole = ap (λ (us : List Placed). t ∷ us) p.1; form = nothing-more s t (t ∷ []) x e refl (sym p.0) }
  takes-turn n s t ts x rest (Ok (Some h)) later e r = by-body (body s h ts) refl r
    where
      by-body : (o : Result (S × List Placed) Stopped) → body s h ts ≡ o → (o >>= λ p. turns head body n p.0 p.1) ≡ read_as x rest → Taken (Items (Says head) F s) (t ∷ ts) x rest
      by-body (Ok p) b r =
          let a = (law s h).takes ts p.0 p.1 b in
          let k = later p.0 p.1 r in
          record {
            front = t ∷ (a.front ++ k.front);
            whole = ap (λ (us : List Placed). t ∷ us) (a.whole ∙ ap (λ (us : List Placed). a.front ++ us) k.whole ∙ sym (append_assoc a.front k.front rest));
            form = one-more k.form.0 s p.0 x t h a.front k.front _ e a.form k.form.1 refl;
          }
      by-body (Err y) b r = absurd cc
  takes-turn n s t ts x rest (Err c) later e r = absurd cc

  takes : (n : ℕ) (s : S) (ts : List Placed) (x : S) (rest : List Placed) → turns head body n s ts ≡ read_as x rest → Taken (Items (Says head) F s) ts x rest
  unfolding turns
  takes zero s ts x rest r = absurd cc
  takes (suc n) s [] x rest r = absurd cc
  takes (suc n) s (t ∷ ts) x rest r = takes-turn n s t ts x rest (head s t) (λ next us q. takes n next us x rest q) refl r

  -- ---- items are read again

  one-turn : (n : ℕ) (s : S) (t : Placed) (h : H) (ts : List Placed) (next : S) (us : List Placed) (o : Result (S × List Placed) Stopped) → head s t ≡ Ok (Some h) → body s h ts ≡ Ok (next, us) → turns head body n next us ≡ o → turns head body (suc n) s (t ∷ ts) ≡ o
  unfolding turns
  one-turn n s t h ts next us o e f g = rw (e, f) g

  last-turn : (n : ℕ) (s : S) (t : Placed) (ts : List Placed) (x : S) → head s t ≡ Ok None → x ≡ s → turns head body (suc n) s (t ∷ ts) ≡ read_as x ts
  unfolding turns
  last-turn n s t ts x e b = rw (e, b) refl

  again : (k n : ℕ) (s : S) (front : List Placed) (x : S) (rest : List Placed) → AreItems (Says head) F k s front x → k < n → turns head body n s (front ++ rest) ≡ read_as x rest
  unfolding AreItems
  again k zero s front x rest f lt = absurd (omega arith)
  again zero (suc n) s front x rest (t, a, e, b) lt =
      subst (λ (us : List Placed). turns head body (suc n) s (us ++ rest) ≡ read_as x rest) (sym e) (last-turn n s t rest x a b)
  again (suc k) (suc n) s front x rest (t, h, l1, next, l2, a, f, r, e) lt =
      ap (λ (us : List Placed). turns head body (suc n) s (us ++ rest)) e ∙ ap (λ (us : List Placed). turns head body (suc n) s (t ∷ us)) (append_assoc l1 l2 rest)
      ∙ one-turn n s t h (l1 ++ (l2 ++ rest)) next (l2 ++ rest) (read_as x rest) a ((law s h).again l1 next (l2 ++ rest) f) (again k n next l2 x rest r (omega arith))

  few : (k : ℕ) (s : S) (l : List Placed) (x : S) → AreItems (Says head) F k s l x → k < length l
  unfolding AreItems
  few zero s l x (t, a, e, b) = omega (arith, ap length e)
  few (suc k) s l x (t, h, l1, next, l2, a, f, r, e) = omega (arith, ap length e, length-append l1 l2, few k next l2 x r)

  -- ---- where turns stop

  at-end : (s : S) (m : ℕ) → 0 < m → turns head body m s [] ≡ Err (Ended, [])
  unfolding turns
  at-end s zero lt = absurd (omega arith)
  at-end s (suc m) lt = refl

  at-head : (s : S) (t : Placed) (c : Complaint) → head s t ≡ Err c → (m : ℕ) (others : List Placed) → 0 < m → turns head body m s (t ∷ others) ≡ Err (c, t ∷ others)
  unfolding turns
  at-head s t c e zero others lt = absurd (omega arith)
  at-head s t c e (suc m) others lt = rw e refl

  body-stops : (n : ℕ) (s : S) (t : Placed) (h : H) (ts : List Placed) (c : Complaint) (rest : List Placed) → head s t ≡ Ok (Some h) → body s h ts ≡ Err (c, rest) → turns head body (suc n) s (t ∷ ts) ≡ Err (c, rest)
  unfolding turns
  body-stops n s t h ts c rest e f = rw (e, f) refl

  in-body : (s : S) (t : Placed) (h : H) (front : List Placed) (c : Complaint) (rest : List Placed) → head s t ≡ Ok (Some h) → Local (body s h) front c rest → Fixed (turns_of s) (t ∷ front) c rest
  in-body s t h front c [] e alone = λ m lt. go m lt
    where
      go : (m : ℕ) → length (t ∷ front) < m → turns head body m s (t ∷ front) ≡ Err (c, [])
      go zero lt = absurd (omega arith)
      go (suc m) lt = body-stops m s t h front c [] e alone
  in-body s t h front c (u ∷ us) e alone = λ m others lt. go m others lt
    where
      go : (m : ℕ) (others : List Placed) → length (t ∷ front) < m → turns head body m s ((t ∷ front) ++ (u ∷ others)) ≡ Err (c, u ∷ others)
      go zero others lt = absurd (omega arith)
      go (suc m) others lt = body-stops m s t h (front ++ (u ∷ others)) c (u ∷ others) e (alone others)

  in-later : (s : S) (t : Placed) (h : H) (front : List Placed) (next : S) (front' : List Placed) (c : Complaint) (rest : List Placed) → head s t ≡ Ok (Some h) → F s h front next → Fixed (turns_of next) front' c rest
      → Fixed (turns_of s) (t ∷ (front ++ front')) c rest
  in-later s t h front next front' c [] e f alone = λ m lt. go m lt
    where
      go : (m : ℕ) → length (t ∷ (front ++ front')) < m → turns head body m s (t ∷ (front ++ front')) ≡ Err (c, [])
      go zero lt = absurd (omega arith)
      go (suc m) lt = one-turn m s t h (front ++ front') next front' (Err (c, [])) e ((law s h).again front next front' f) (alone m (omega (arith, length-append front front')))
  in-later s t h front next front' c (u ∷ us) e f alone = λ m others lt. go m others lt
    where
      go : (m : ℕ) (others : List Placed) → length (t ∷ (front ++ front')) < m → turns head body m s ((t ∷ (front ++ front')) ++ (u ∷ others)) ≡ Err (c, u ∷ others)
      go zero others lt = absurd (omega arith)
      go (suc m) others lt =
          ap (λ (vs : List Placed). turns head body (suc m) s (t ∷ vs)) (append_assoc front front' (u ∷ others))
          ∙ one-turn m s t h (front ++ (front' ++ (u ∷ others))) next (front' ++ (u ∷ others)) (Err (c, u ∷ others)) e ((law s h).again front next (front' ++ (u ∷ others)) f) (alone m others (omega (arith, length-append front front')))

  halts-turn : (n : ℕ) (s : S) (t : Placed) (ts : List Placed) (c : Complaint) (rest : List Placed) (j : Result (Option H) Complaint)
      → ((next : S) (us : List Placed) → length us < n → turns head body n next us ≡ stopped_at c rest → Halts (Items (Says head) F next) (turns_of next) us c rest)
      → length ts < n → head s t ≡ j → turn body (turns head body n) s t ts j ≡ stopped_at c rest → Halts (Items (Says head) F s) (turns_of s) (t ∷ ts) c rest
  halts-turn n s t ts c rest (Ok None) later lt e r = absurd cc
  halts-turn n s t ts c rest (Err d) later lt e r =
      let p = err-parts S d c (t ∷ ts) rest r in
      let alone : Fixed (turns_of s) [] c (t ∷ ts) = λ m others some. rw (at-head s t d e m others some, p.0) refl in
      record { front = []; whole = p.1; begun = finish s; alone = subst (λ (us : List Placed). Fixed (turns_of s) [] c us) p.1 alone }
  halts-turn n s t ts c rest (Ok (Some h)) later lt e r = by-body (body s h ts) refl r
    where
      by-body : (o : Result (S × List Placed) Stopped) → body s h ts ≡ o → (o >>= λ p. turns head body n p.0 p.1) ≡ stopped_at c rest → Halts (Items (Says head) F s) (turns_of s) (t ∷ ts) c rest
      by-body (Ok p) b r =
          let a = (law s h).takes ts p.0 p.1 b in
          let k = later p.0 p.1 (omega (arith, ap length a.whole, length-append a.front p.1)) r in
          let begun : Begins (Items (Says head) F s) (t ∷ (a.front ++ k.front)) =
          (k.begun.0, k.begun.1, one-more k.begun.2.0 s p.0 k.begun.1 t h a.front (k.front ++ k.begun.0) _ e a.form k.begun.2.1 (ap (λ (l : List Placed). t ∷ l) (append_assoc a.front k.front k.begun.0))) in
          record {
            front = t ∷ (a.front ++ k.front);
            whole = ap (λ (us : List Placed). t ∷ us) (a.whole ∙ ap (λ (us : List Placed). a.front ++ us) k.whole ∙ sym (append_assoc a.front k.front rest));
            begun = begun;
            alone = in-later s t h a.front p.0 k.front c rest e a.form k.alone;
          }
      by-body (Err y) b r =
          let p = err-parts S y.0 c y.1 rest r in
          let q : body s h ts ≡ stopped_at c rest = b ∙ (let w : stopped_at {A = S} y.0 y.1 ≡ stopped_at c rest = rw (p.0, p.1) refl in w) in
          let a = (law s h).stops ts c rest q in
          let last = finish a.begun.1 in
          let begun : Begins (Items (Says head) F s) (t ∷ a.front) =
          (a.begun.0 ++ last.0, last.1, one-more last.2.0 s a.begun.1 last.1 t h (a.front ++ a.begun.0) last.0 _ e a.begun.2 last.2.1 (ap (λ (l : List Placed). t ∷ l) (sym (append_assoc a.front a.begun.0 last.0)))) in
          record { front = t ∷ a.front; whole = ap (λ (us : List Placed). t ∷ us) a.whole; begun = begun; alone = in-body s t h a.front c rest e a.alone }

  halts : (n : ℕ) (s : S) (ts : List Placed) (c : Complaint) (rest : List Placed) → length ts < n → turns head body n s ts ≡ stopped_at c rest → Halts (Items (Says head) F s) (turns_of s) ts c rest
  unfolding turns
  halts zero s ts c rest lt r = absurd (omega arith)
  halts (suc n) s [] c rest lt r =
      let p = err-parts S Ended c [] rest r in
      let alone : Fixed (turns_of s) [] c [] = λ m some. rw (at-end s m some, p.0) refl in
      record { front = []; whole = p.1; begun = finish s; alone = subst (λ (us : List Placed). Fixed (turns_of s) [] c us) p.1 alone }
  halts (suc n) s (t ∷ ts) c rest lt r = halts-turn n s t ts c rest (head s t) (λ next us k q. halts n next us c rest k q) (omega arith) refl r

  local : (s : S) (front : List Placed) (c : Complaint) (rest : List Placed) → Fixed (turns_of s) front c rest → Local (items head body s) front c rest
  local s front c [] alone = alone (suc (length front)) (omega arith)
  local s front c (t ∷ ts) alone = λ others. alone (suc (length (front ++ (t ∷ others)))) others (omega (arith, length-append front (t ∷ others)))

  -- to read a list of items is lawful, where each item is lawful and the list can always be finished
  pub lawful_items : (s : S) → Lawful (Items (Says head) F s) (items head body s)
  lawful_items s = record {
    takes = λ ts x rest r. takes (suc (length ts)) s ts x rest r;
    again = λ front x rest f. again f.0 (suc (length (front ++ rest))) s front x rest f.1 (omega (arith, few f.0 s front x f.1, length-append front rest));
    stops = λ ts c rest r.
        (let k = halts (suc (length ts)) s ts c rest (omega arith) r in
        record { front = k.front; whole = k.whole; begun = k.begun; alone = local s k.front c rest k.alone });
  }

-- a list that a token may end at once can always be finished
pub finish_by : {S H : Type 0} (head : S → Placed → Result (Option H) Complaint) (F : S → H → List Placed → S → Type 0) (closer : Placed) → ((s : S) → head s closer ≡ Ok None) → (s : S) → (l : List Placed) × (x : S) × Items (Says head) F s l x
unfolding AreItems
finish_by head F closer closes s = (closer ∷ [], s, (zero, (closer, closes s, refl, refl)))
