-- Forms that say the same of tokens are read alike.
use Rattle.std.proofs.Common.{◌≡◌, ℕ, zero, suc, List, ◌++◌, Option, Some, None}
use Rattle.std.specs.Prelude.{◌↔◌, Result, Ok}
use Rattle.snd_reader.specs.declared.fault.Complaint.{Complaint}
use Rattle.snd_reader.specs.Readers.{Placed, Reader, token, items}
use Rattle.snd_reader.specs.Forms.{IsToken, AreItems, Items}
use Rattle.snd_reader.proofs.Lawful.{Finds, Says, Lawful}
use Rattle.snd_reader.proofs.Live.{Live}

-- where two forms say the same, a reader that is lawful by one is lawful by the other
pub lawful_as : {A : Type 0} (F G : List Placed → A → Type 0) (r : Reader A) → ((l : List Placed) (x : A) → F l x ↔ G l x) → Lawful F r → Lawful G r
lawful_as F G r same law = record {
  takes = λ ts x rest e. (let k = law.takes ts x rest e in record { front = k.front; whole = k.whole; form = (same k.front x).0 k.form });
  again = λ front x rest g. law.again front x rest ((same front x).1 g);
  stops = λ ts c rest e.
      (let k = law.stops ts c rest e in
      record { front = k.front; whole = k.whole; begun = (k.begun.0, k.begun.1, (same (k.front ++ k.begun.0) k.begun.1).0 k.begun.2); alone = k.alone });
}

-- where two forms say the same, a reader that is live by one is live by the other
pub live_as : {A : Type 0} (F G : List Placed → A → Type 0) (r : Reader A) → ((l : List Placed) (x : A) → F l x ↔ G l x) → Live F r → Live G r
live_as F G r same live = record {
  law = lawful_as F G r same live.law;
  some = (let s = live.some in (s.0, s.1, (same s.0 s.1).0 s.2));
  no_end = λ l z g. live.no_end l z ((same l z).1 g);
  at_end = live.at_end;
}

-- a reader of one token is live by what is said of the token, where its test finds just that
pub live_such : {A : Type 0} (test : Placed → Result A Complaint) (Is : Placed → A → Type 0) → ((t : Placed) (x : A) → (test t ≡ Ok x) ↔ Is t x) → Live (IsToken (Finds test)) (token test) → Live (IsToken Is) (token test)
live_such test Is same live =
    live_as (IsToken (Finds test)) (IsToken Is) (token test) (λ l x. (λ f. (f.0, f.1, (same f.0 x).0 f.2), λ f. (f.0, f.1, (same f.0 x).1 f.2))) live

module _ {S H : Type 0} (F : S → H → List Placed → S → Type 0) where
  items-as : (Head Other : S → Placed → Option H → Type 0) → ((s : S) (t : Placed) (h : Option H) → Head s t h → Other s t h) → (n : ℕ) (s : S) (l : List Placed) (x : S) → AreItems Head F n s l x → AreItems Other F n s l x
  unfolding AreItems
  items-as Head Other into zero s l x (t, a, e, b) = (t, into s t None a, e, b)
  items-as Head Other into (suc n) s l x (t, h, front, next, rest, a, f, r, e) = (t, h, front, next, rest, into s t (Some h) a, f, items-as Head Other into n next rest x r, e)

  -- items that begin so are those of a test that finds just that
  pub same_items : (head : S → Placed → Result (Option H) Complaint) (Head : S → Placed → Option H → Type 0) → ((s : S) (t : Placed) (h : Option H) → (head s t ≡ Ok h) ↔ Head s t h) → (s : S) (l : List Placed) (x : S)
      → Items (Says head) F s l x ↔ Items Head F s l x
  same_items head Head same s l x = (
    λ f. (f.0, items-as (Says head) Head (λ u t h. (same u t h).0) f.0 s l x f.1),
    λ f. (f.0, items-as Head (Says head) (λ u t h. (same u t h).1) f.0 s l x f.1),
  )

  -- a reader of items is live by what is said of their first tokens, where its test finds just that
  pub live_items_such : (head : S → Placed → Result (Option H) Complaint) (body : S → H → Reader S) (Head : S → Placed → Option H → Type 0) → ((s : S) (t : Placed) (h : Option H) → (head s t ≡ Ok h) ↔ Head s t h) → (s : S)
      → Live (Items (Says head) F s) (items head body s) → Live (Items Head F s) (items head body s)
  live_items_such head body Head same s live = live_as (Items (Says head) F s) (Items Head F s) (items head body s) (same_items head Head same s) live
