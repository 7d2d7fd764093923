-- Tokens that stand for what a form says, piece by piece: their places play no part but in the value.
use Rattle.std.proofs.Common.{◌≡◌, suc, List, [], ◌∷◌, ◌++◌, Option, Some, None, refl, sym, ap}
use Rattle.std.proofs.lemmas.List.{append-nil}
use Rattle.snd_reader.specs.Readers.{Lexeme, Placed}
use Rattle.snd_reader.specs.Forms.{Then, IsToken, IsNothing, AreItems, Items}
use Rattle.snd_reader.proofs.CutTexts.{AreSeen}

-- tokens stand for a value of which this holds
pub record Found {A : Type 0} (F : List Placed → A → Type 0) (P : A → Type 0) (ts : List Placed) : Type 0 where
  pub value : A
  pub form : F ts value
  pub good : P value

-- wherever these tokens stand, they stand for a value of which this holds
pub record Reads {A : Type 0} (F : List Placed → A → Type 0) (P : A → Type 0) (ls : List Lexeme) : Type 0 where
  pub found : (ts : List Placed) → AreSeen ts ls → Found F P ts

-- ---- tokens in two parts

record Split (ts : List Placed) (ls ms : List Lexeme) : Type 0 where
  front : List Placed
  rest : List Placed
  whole : ts ≡ front ++ rest
  first : AreSeen front ls
  second : AreSeen rest ms

split : (ts : List Placed) (ls ms : List Lexeme) → AreSeen ts (ls ++ ms) → Split ts ls ms
split ts [] ms h = record { front = []; rest = ts; whole = refl; first = tt; second = h }
split [] (l ∷ ls) ms h = absurd h
split (t ∷ ts) (l ∷ ls) ms h =
    let s = split ts ls ms h.1 in
    record { front = t ∷ s.front; rest = s.rest; whole = ap (λ (us : List Placed). t ∷ us) s.whole; first = (h.0, s.first); second = s.second }

-- where tokens stand for a value and others for what may follow it, both in order stand for both
pub reads_then : {A B : Type 0} (F : List Placed → A → Type 0) (G : A → List Placed → B → Type 0) (P : A → Type 0) (Q : B → Type 0) (ls ms : List Lexeme)
    → Reads F P ls → ((x : A) → P x → Reads (G x) Q ms) → Reads (Then F G) Q (ls ++ ms)
reads_then F G P Q ls ms r s = record {
  found = λ ts h.
      let c = split ts ls ms h in
      let a = r.found c.front c.first in
      let b = (s a.value a.good).found c.rest c.second in
      record { value = b.value; form = (c.front, a.value, c.rest, a.form, b.form, c.whole); good = b.good };
}

-- nothing stands behind what is read
pub reads_last : {A B : Type 0} (F : List Placed → A → Type 0) (v : A → B) (P : A → Type 0) (Q : B → Type 0) (ls : List Lexeme)
    → Reads F P ls → ((x : A) → P x → Q (v x)) → Reads (Then F (λ x. IsNothing (v x))) Q ls
reads_last F v P Q ls r s = record {
  found = λ ts h.
      let a = r.found ts h in
      record { value = v a.value; form = (ts, a.value, [], a.form, (refl, refl), sym (append-nil ts)); good = s a.value a.good };
}

none : {A : Type 0} (v : A) (P : A → Type 0) (ts : List Placed) → P v → AreSeen ts [] → Found (IsNothing v) P ts
none v P [] p h = record { value = v; form = (refl, refl); good = p }
none v P (t ∷ ts) p h = absurd h

-- no tokens stand for a value that is read from nothing, where the value is good
pub reads_nothing : {A : Type 0} (v : A) (P : A → Type 0) → P v → Reads (IsNothing v) P []
reads_nothing v P p = record { found = λ ts h. none v P ts p h }

-- ---- one token

-- it stands for a value of which this holds
pub record Stands {A : Type 0} (Is : A → Type 0) (P : A → Type 0) : Type 0 where
  pub value : A
  pub is : Is value
  pub good : P value

one : {A : Type 0} (Is : Placed → A → Type 0) (P : A → Type 0) (l : Lexeme) (ts : List Placed) → ((t : Placed) → t.is ≡ l → Stands (Is t) P) → AreSeen ts (l ∷ []) → Found (IsToken Is) P ts
one Is P l [] r h = absurd h
one Is P l (t ∷ []) r h = (let j = r t h.0 in record { value = j.value; form = (t, refl, j.is); good = j.good })
one Is P l (t ∷ u ∷ ts) r h = absurd h.1

-- a token that stands for a value of which this holds, wherever it stands
pub reads_token : {A : Type 0} (Is : Placed → A → Type 0) (P : A → Type 0) (l : Lexeme) → ((t : Placed) → t.is ≡ l → Stands (Is t) P) → Reads (IsToken Is) P (l ∷ [])
reads_token Is P l r = record { found = λ ts h. one Is P l ts r h }

-- ---- items

module _ {S H : Type 0} (Head : S → Placed → Option H → Type 0) (F : S → H → List Placed → S → Type 0) (Q : S → Type 0) where
  ends : (s : S) (l : Lexeme) (ts : List Placed) → ((t : Placed) → t.is ≡ l → Head s t None) → Q s → AreSeen ts (l ∷ []) → Found (Items Head F s) Q ts
  unfolding AreItems
  ends s l [] r q h = absurd h
  ends s l (t ∷ []) r q h = record { value = s; form = (0, (t, r t h.0, refl, refl)); good = q }
  ends s l (t ∷ u ∷ ts) r q h = absurd h.1

  -- a token ends the list
  pub reads_end : (s : S) (l : Lexeme) → ((t : Placed) → t.is ≡ l → Head s t None) → Q s → Reads (Items Head F s) Q (l ∷ [])
  reads_end s l r q = record { found = λ ts h. ends s l ts r q h }

  goes-on : (P : S → Type 0) (s : S) (l : Lexeme) (i : H) (ls ms : List Lexeme) (ts : List Placed)
      → ((t : Placed) → t.is ≡ l → Head s t (Some i)) → Reads (F s i) P ls → ((next : S) → P next → Reads (Items Head F next) Q ms) → AreSeen ts (l ∷ (ls ++ ms)) → Found (Items Head F s) Q ts
  unfolding AreItems
  goes-on P s l i ls ms [] r body later h = absurd h
  goes-on P s l i ls ms (t ∷ ts) r body later h =
      let c = split ts ls ms h.1 in
      let a = body.found c.front c.first in
      let b = (later a.value a.good).found c.rest c.second in
      record {
        value = b.value;
        form = (suc b.form.0, (t, i, c.front, a.value, c.rest, r t h.0, a.form, b.form.1, ap (λ (us : List Placed). t ∷ us) c.whole));
        good = b.good;
      }

  -- an item, and then the others
  pub reads_item : (P : S → Type 0) (s : S) (l : Lexeme) (i : H) (ls ms : List Lexeme)
      → ((t : Placed) → t.is ≡ l → Head s t (Some i)) → Reads (F s i) P ls → ((next : S) → P next → Reads (Items Head F next) Q ms) → Reads (Items Head F s) Q (l ∷ (ls ++ ms))
  reads_item P s l i ls ms r body later = record { found = λ ts h. goes-on P s l i ls ms ts r body later h }
