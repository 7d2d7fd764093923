-- Readers that read exactly what is written, and stop at the first bad token.
use Rattle.std.proofs.Common.{◌≡◌, List, [], ◌∷◌, ◌++◌, Option, refl, sym, ap, subst, ◌∙◌, append_assoc}
use Rattle.std.specs.Prelude.{Result, Ok, Err}
use Rattle.std.proofs.lemmas.List.{append-nil}
use Rattle.snd_reader.specs.declared.fault.Complaint.{Complaint}
use Rattle.snd_reader.specs.declared.fault.Complaint.TheVariants.{Ended}
use Rattle.snd_reader.specs.Readers.{Placed, Stopped, Reader, ◌>>=◌, done, bind, judged, token}
use Rattle.snd_reader.specs.Forms.{Then, IsToken, IsNothing, Begins, IsFirstBad}

-- the test finds that the token stands for this
abbrev pub Finds : {A : Type 0} → (Placed → Result A Complaint) → Placed → A → Type 0
Finds test t x = test t ≡ Ok x

-- the same, where the test looks at the items so far
abbrev pub Says : {S H : Type 0} → (S → Placed → Result (Option H) Complaint) → S → Placed → Option H → Type 0
Says head s t h = head s t ≡ Ok h

-- the rest of the tokens plays no part in where the reader stops
abbrev pub Local : {A : Type 0} → Reader A → List Placed → Complaint → List Placed → Type 0
Local r front c [] = r front ≡ Err (c, [])
Local r front c (t ∷ after) = (others : List Placed) → r (front ++ (t ∷ others)) ≡ Err (c, t ∷ others)

-- the tokens before the stop begin some value
pub record Stops {A : Type 0} (F : List Placed → A → Type 0) (r : Reader A) (ts : List Placed) (c : Complaint) (rest : List Placed) : Type 0 where
  pub front : List Placed
  pub whole : ts ≡ front ++ rest
  pub begun : Begins F front
  pub alone : Local r front c rest

-- the tokens that are taken stand for the value
pub record Taken {A : Type 0} (F : List Placed → A → Type 0) (ts : List Placed) (x : A) (rest : List Placed) : Type 0 where
  pub front : List Placed
  pub whole : ts ≡ front ++ rest
  pub form : F front x

-- the reader reads exactly what has the form, and stops only where the tokens before the stop begin some value
pub record Lawful {A : Type 0} (F : List Placed → A → Type 0) (r : Reader A) : Type 0 where
  pub takes : (ts : List Placed) (x : A) (rest : List Placed) → r ts ≡ Ok (x, rest) → Taken F ts x rest
  pub again : (front : List Placed) (x : A) (rest : List Placed) → F front x → r (front ++ rest) ≡ Ok (x, rest)
  pub stops : (ts : List Placed) (c : Complaint) (rest : List Placed) → r ts ≡ Err (c, rest) → Stops F r ts c rest

-- ---- parts of answers

-- the answer that a value is read, with these tokens behind it
abbrev pub read_as : {A : Type 0} → A → List Placed → Result (A × List Placed) Stopped
read_as x rest = Ok (x, rest)

-- the answer that reading stops with a complaint, with these tokens left
abbrev pub stopped_at : {A : Type 0} → Complaint → List Placed → Result (A × List Placed) Stopped
stopped_at c rest = Err (c, rest)

same-ok : {A : Type 0} (p q : A × List Placed) → read_as p.0 p.1 ≡ read_as q.0 q.1 → p ≡ q
same-ok p q e = cc

-- answers with values that are equal have equal values and equal tokens behind them
pub ok-parts : {A : Type 0} (x y : A) (a b : List Placed) → read_as x a ≡ read_as y b → (x ≡ y) × (a ≡ b)
ok-parts {A} x y a b e = let s = same-ok (x, a) (y, b) e in (ap (λ (p : A × List Placed). p.0) s, ap (λ (p : A × List Placed). p.1) s)

same-err : {A : Type 0} (p q : Complaint × List Placed) → stopped_at {A = A} p.0 p.1 ≡ stopped_at {A = A} q.0 q.1 → p ≡ q
same-err p q e = cc

-- answers with complaints that are equal have equal complaints and equal tokens left
pub err-parts : (A : Type 0) (c d : Complaint) (a b : List Placed) → stopped_at {A = A} c a ≡ stopped_at {A = A} d b → (c ≡ d) × (a ≡ b)
err-parts A c d a b e = let s = same-err {A = A} (c, a) (d, b) e in (ap (λ (p : Complaint × List Placed). p.0) s, ap (λ (p : Complaint × List Placed). p.1) s)

-- an answer with an error is none with a value
pub apart : {X Y : Type 0} {x : X} {y : Y} → Err y ≡ Ok x → ⊥
apart e = cc

-- ---- what a lawful reader says of the first bad token

-- with the bad token no value begins so
pub not_begun : {A : Type 0} (F : List Placed → A → Type 0) (r : Reader A) (law : Lawful F r) (front : List Placed) (c : Complaint) (t : Placed) (after : List Placed)
    → Local r front c (t ∷ after) → Begins F (front ++ t ∷ []) → ⊥
not_begun F r law front c t after alone (more, x, f) =
    let g = law.again ((front ++ t ∷ []) ++ more) x [] f in
    let same : front ++ (t ∷ more) ≡ ((front ++ t ∷ []) ++ more) ++ [] = sym (append_assoc front (t ∷ []) more) ∙ sym (append-nil ((front ++ t ∷ []) ++ more)) in
    apart (sym (alone more) ∙ ap r same ∙ g)

-- the token at which a lawful reader stops is the first bad token
pub first_bad : {A : Type 0} (F : List Placed → A → Type 0) (r : Reader A) → Lawful F r → (ts : List Placed) (c : Complaint) (t : Placed) (after : List Placed) → r ts ≡ Err (c, t ∷ after) → IsFirstBad F ts t
first_bad F r law ts c t after e =
    let k = law.stops ts c (t ∷ after) e in
    record { front = k.front; after = after; whole = k.whole; begun = k.begun; bad = λ b. not_begun F r law k.front c t after k.alone b }

-- tokens stand for one value at most
pub one_value : {A : Type 0} (F : List Placed → A → Type 0) (r : Reader A) → Lawful F r → (ts : List Placed) (x y : A) → F ts x → F ts y → x ≡ y
one_value F r law ts x y f g = (ok-parts x y [] [] (sym (law.again ts x [] f) ∙ law.again ts y [] g)).0

-- ---- nothing, and one token

-- to read nothing is lawful
pub lawful_done : {A : Type 0} (v : A) → Lawful (IsNothing v) (done v)
lawful_done v = record {
  takes = λ ts x rest e. (let p = ok-parts v x ts rest e in record { front = []; whole = p.1; form = (refl, sym p.0) });
  again = λ front x rest f. rw (f.0, f.1) refl;
  stops = λ ts c rest e. absurd cc;
}

-- to read one token is lawful, where its test finds some token good
pub lawful_token : {A : Type 0} (test : Placed → Result A Complaint) (some : Placed) (value : A) → test some ≡ Ok value → Lawful (IsToken (Finds test)) (token test)
lawful_token {A} test some value good = record {
  takes = λ ts x rest e. takes ts x rest e;
  again = λ front x rest f. again front x rest f;
  stops = λ ts c rest e. stops ts c rest e;
}
  where
    takes-by : (t : Placed) (ts : List Placed) (j : Result A Complaint) (x : A) (rest : List Placed) → test t ≡ j → judged t ts j ≡ read_as x rest → Taken (IsToken (Finds test)) (t ∷ ts) x rest
    takes-by t ts (Ok y) x rest h e =
        let p = ok-parts y x ts rest e in
        record { front = t ∷ []; whole = ap (λ (us : List Placed). t ∷ us) p.1; form = (t, refl, h ∙ ap (λ (z : A). Ok z) p.0) }
    takes-by t ts (Err c) x rest h e = absurd cc

    takes : (ts : List Placed) (x : A) (rest : List Placed) → token test ts ≡ read_as x rest → Taken (IsToken (Finds test)) ts x rest
    takes [] x rest e = absurd cc
    takes (t ∷ ts) x rest e = takes-by t ts (test t) x rest refl e

    one : (t : Placed) (x : A) (rest : List Placed) (j : Result A Complaint) → j ≡ Ok x → judged t rest j ≡ read_as x rest
    one t x rest j h = rw h refl

    again : (front : List Placed) (x : A) (rest : List Placed) → IsToken (Finds test) front x → token test (front ++ rest) ≡ read_as x rest
    again front x rest (t, e, h) = subst (λ (us : List Placed). token test (us ++ rest) ≡ read_as x rest) (sym e) (one t x rest (test t) h)

    begun : Begins (IsToken (Finds test)) []
    begun = (some ∷ [], value, (some, refl, good))

    bad : (t : Placed) (d c : Complaint) (others : List Placed) (j : Result A Complaint) → j ≡ Err d → d ≡ c → judged t others j ≡ stopped_at c (t ∷ others)
    bad t d c others j h e = rw (h, e) refl

    stops-by : (t : Placed) (ts : List Placed) (j : Result A Complaint) (c : Complaint) (rest : List Placed) → test t ≡ j → judged t ts j ≡ stopped_at c rest → Stops (IsToken (Finds test)) (token test) (t ∷ ts) c rest
    stops-by t ts (Ok y) c rest h e = absurd cc
    stops-by t ts (Err d) c rest h e =
        let p = err-parts A d c (t ∷ ts) rest e in
        let alone : Local (token test) [] c (t ∷ ts) = λ others. bad t d c others (test t) h p.0 in
        record { front = []; whole = p.1; begun = begun; alone = subst (λ (us : List Placed). Local (token test) [] c us) p.1 alone }

    stops : (ts : List Placed) (c : Complaint) (rest : List Placed) → token test ts ≡ stopped_at c rest → Stops (IsToken (Finds test)) (token test) ts c rest
    stops [] c rest e =
        let p = err-parts A Ended c [] rest e in
        let alone : Local (token test) [] c [] = rw (← p.0) refl in
        record { front = []; whole = p.1; begun = begun; alone = subst (λ (us : List Placed). Local (token test) [] c us) p.1 alone }
    stops (t ∷ ts) c rest e = stops-by t ts (test t) c rest refl e

-- ---- one after the other

-- where the first reader gives a value, both readers in order answer what the second answers behind it
pub and-then : {A X : Type 0} (r : Reader A) (s : A → Reader X) (ts : List Placed) (x : A) (us : List Placed) (o : Result (X × List Placed) Stopped) → r ts ≡ Ok (x, us) → s x us ≡ o → bind r s ts ≡ o
and-then r s ts x us o e f = rw e f

-- two lawful readers one after the other are lawful, where the second form can follow each value of the first
pub lawful_bind : {A X : Type 0} (F : List Placed → A → Type 0) (G : A → List Placed → X → Type 0) (r : Reader A) (s : A → Reader X)
    → Lawful F r → ((x : A) → Lawful (G x) (s x)) → ((y : A) → (l : List Placed) × (z : X) × G y l z) → Lawful (Then F G) (bind r s)
lawful_bind {A} {X} F G r s first second some = record {
  takes = λ ts z rest e. takes-by ts z rest (r ts) refl e;
  again = λ front z rest f. again front z rest f;
  stops = λ ts c rest e. stops-by ts c rest (r ts) refl e;
}
  where
    takes-by : (ts : List Placed) (z : X) (rest : List Placed) (o : Result (A × List Placed) Stopped) → r ts ≡ o → (o >>= λ p. s p.0 p.1) ≡ read_as z rest → Taken (Then F G) ts z rest
    takes-by ts z rest (Ok p) h e =
        let a = first.takes ts p.0 p.1 h in
        let b = (second p.0).takes p.1 z rest e in
        record {
          front = a.front ++ b.front;
          whole = a.whole ∙ ap (λ (us : List Placed). a.front ++ us) b.whole ∙ sym (append_assoc a.front b.front rest);
          form = (a.front, p.0, b.front, a.form, b.form, refl);
        }
    takes-by ts z rest (Err x) h e = absurd cc

    again : (front : List Placed) (z : X) (rest : List Placed) → Then F G front z → bind r s (front ++ rest) ≡ read_as z rest
    again front z rest (a, y, b, f, g, e) =
        ap (λ (us : List Placed). bind r s (us ++ rest)) e ∙ ap (bind r s) (append_assoc a b rest)
        ∙ and-then r s (a ++ (b ++ rest)) y (b ++ rest) (read_as z rest) (first.again a y (b ++ rest) f) ((second y).again b z rest g)

    after : (front : List Placed) (x : A) (c : Complaint) (rest : List Placed) (front' : List Placed) → F front x → Local (s x) front' c rest → Local (bind r s) (front ++ front') c rest
    after front x c [] front' f alone = and-then r s (front ++ front') x front' (stopped_at c []) (first.again front x front' f) alone
    after front x c (t ∷ us) front' f alone = λ others.
        ap (bind r s) (append_assoc front front' (t ∷ others)) ∙ and-then r s (front ++ (front' ++ (t ∷ others))) x (front' ++ (t ∷ others)) (stopped_at c (t ∷ others)) (first.again front x (front' ++ (t ∷ others)) f) (alone others)

    before : (front : List Placed) (c : Complaint) (rest : List Placed) → Local r front c rest → Local (bind r s) front c rest
    before front c [] alone = rw alone refl
    before front c (t ∷ us) alone = λ others. rw (alone others) refl

    stops-by : (ts : List Placed) (c : Complaint) (rest : List Placed) (o : Result (A × List Placed) Stopped) → r ts ≡ o → (o >>= λ p. s p.0 p.1) ≡ stopped_at c rest → Stops (Then F G) (bind r s) ts c rest
    stops-by ts c rest (Ok p) h e =
        let a = first.takes ts p.0 p.1 h in
        let b = (second p.0).stops p.1 c rest e in
        record {
          front = a.front ++ b.front;
          whole = a.whole ∙ ap (λ (us : List Placed). a.front ++ us) b.whole ∙ sym (append_assoc a.front b.front rest);
          begun = (b.begun.0, b.begun.1, (a.front, p.0, b.front ++ b.begun.0, a.form, b.begun.2, append_assoc a.front b.front b.begun.0));
          alone = after a.front p.0 c rest b.front a.form b.alone;
        }
    stops-by ts c rest (Err x) h e =
        let p = err-parts X x.0 c x.1 rest e in
        let q : r ts ≡ stopped_at c rest = h ∙ (let w : stopped_at {A = A} x.0 x.1 ≡ stopped_at c rest = rw (p.0, p.1) refl in w) in
        let a = first.stops ts c rest q in
        let g = some a.begun.1 in
        record {
          front = a.front;
          whole = a.whole;
          begun = (a.begun.0 ++ g.0, g.1, (a.front ++ a.begun.0, a.begun.1, g.0, a.begun.2, g.2, sym (append_assoc a.front a.begun.0 g.0)));
          alone = before a.front c rest a.alone;
        }
