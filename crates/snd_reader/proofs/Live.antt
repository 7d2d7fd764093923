-- Lawful readers that some value can be read by, and that never go past the end of a text: they make records of fields one line a field.
use Rattle.std.proofs.Common.{◌≡◌, ℕ, zero, suc, List, [], ◌∷◌, ◌++◌, Option, Some, None, refl, sym, ap, subst, ◌∙◌, append_assoc}
use Rattle.std.specs.Prelude.{Result, Ok, Err}
use Rattle.std.specs.List.{AllByRecursion}
use Rattle.snd_reader.specs.declared.fault.Complaint.{Complaint}
use Rattle.snd_reader.specs.declared.fault.Complaint.TheVariants.{Ended}
use Rattle.snd_reader.specs.Readers.{Lexeme, word, open_bracket, close_bracket, equals_sign, the_end, Placed, Reader, done, bind, token, items}
use Rattle.snd_reader.specs.Forms.{Then, IsToken, IsNothing, AreItems, Items}
use Rattle.snd_reader.proofs.Lawful.{Finds, Says, Lawful, lawful_done, lawful_token, lawful_bind, apart}
use Rattle.snd_reader.proofs.Many.{lawful_items}
use Rattle.snd_reader.proofs.Endings.{EndsAtEnd, ends_done, ends_token, ends_bind, ends_items}

-- it is no end of a text
abbrev pub IsMore : Lexeme → Type 0
IsMore (word bytes) = Unit {0}
IsMore open_bracket = Unit {0}
IsMore close_bracket = Unit {0}
IsMore equals_sign = Unit {0}
IsMore the_end = ⊥

-- the end of a text is not among the tokens
abbrev pub HasNoEnd : List Placed → Type 0
HasNoEnd ts = AllByRecursion (λ t. IsMore t.is) ts

-- where the end of a text is in neither of two lists of tokens, it is not in both together
pub no_end_append : (a b : List Placed) → HasNoEnd a → HasNoEnd b → HasNoEnd (a ++ b)
no_end_append [] b h k = k
no_end_append (t ∷ a) b h k = (h.0, no_end_append a b h.1 k)

-- a lawful reader whose form has a value and holds no end of a text, and that tells of the end at the end alone
pub record Live {A : Type 0} (F : List Placed → A → Type 0) (r : Reader A) : Type 0 where
  pub law : Lawful F r
  pub some : (l : List Placed) × (z : A) × F l z
  pub no_end : (l : List Placed) (z : A) → F l z → HasNoEnd l
  pub at_end : EndsAtEnd r

-- two live readers one after the other are live
pub live_bind : {A X : Type 0} (F : List Placed → A → Type 0) (G : A → List Placed → X → Type 0) (r : Reader A) (s : A → Reader X)
    → Live F r → ((x : A) → Live (G x) (s x)) → Live (Then F G) (bind r s)
live_bind {A} {X} F G r s first after = record {
  law = lawful_bind F G r s first.law (λ x. (after x).law) (λ y. (after y).some);
  some = (let a = first.some in let b = (after a.1).some in (a.0 ++ b.0, b.1, (a.0, a.1, b.0, a.2, b.2, refl)));
  no_end = λ l z f. no_end l z f;
  at_end = ends_bind r s first.at_end (λ x. (after x).at_end);
}
  where
    no_end : (l : List Placed) (z : X) → Then F G l z → HasNoEnd l
    no_end l z (a, x, b, f, g, e) = subst HasNoEnd (sym e) (no_end_append a b (first.no_end a x f) ((after x).no_end b z g))

-- to read nothing is live
pub live_done : {A : Type 0} (v : A) → Live (IsNothing v) (done v)
live_done v = record { law = lawful_done v; some = ([], v, (refl, refl)); no_end = λ l z f. subst HasNoEnd (sym f.0) tt; at_end = ends_done v }

-- what a test finds good is no end
pub more_by : {A : Type 0} (test : Placed → Result A Complaint) → ((t : Placed) → t.is ≡ the_end → test t ≡ Err Ended) → (t : Placed) (x : A) → test t ≡ Ok x → IsMore t.is
more_by {A} test ends t x e = by t.is refl
  where
    by : (l : Lexeme) → t.is ≡ l → IsMore t.is
    by (word bytes) is = rw is tt
    by open_bracket is = rw is tt
    by close_bracket is = rw is tt
    by equals_sign is = rw is tt
    by the_end is = absurd (apart (sym (ends t is) ∙ e))

-- to read one token is live, where its test finds some token good and tells of the end at the end alone
pub live_token : {A : Type 0} (test : Placed → Result A Complaint) (some : Placed) (value : A) → test some ≡ Ok value → ((t : Placed) → t.is ≡ the_end → test t ≡ Err Ended) → ((t : Placed) → test t ≡ Err Ended → t.is ≡ the_end) → Live (IsToken (Finds test)) (token test)
live_token {A} test some value good ends only = record { law = lawful_token test some value good; some = (some ∷ [], value, (some, refl, good)); no_end = λ l z f. no_end l z f; at_end = ends_token test only }
  where
    no_end : (l : List Placed) (z : A) → IsToken (Finds test) l z → HasNoEnd l
    no_end l z (t, e, h) = subst HasNoEnd (sym e) (more_by test ends t z h, tt)

module _ {S H : Type 0} (head : S → Placed → Result (Option H) Complaint) (body : S → H → Reader S) (F : S → H → List Placed → S → Type 0)
    (live : (s : S) (h : H) → Live (F s h) (body s h)) (finish : (s : S) → (l : List Placed) × (x : S) × Items (Says head) F s l x) (ends : (s : S) (t : Placed) → t.is ≡ the_end → head s t ≡ Err Ended)
    (only : (s : S) (t : Placed) → head s t ≡ Err Ended → t.is ≡ the_end) where
  items_no_end : (n : ℕ) (s : S) (l : List Placed) (x : S) → AreItems (Says head) F n s l x → HasNoEnd l
  unfolding AreItems
  items_no_end zero s l x (t, a, e, b) = subst HasNoEnd (sym e) (more_by (head s) (ends s) t None a, tt)
  items_no_end (suc n) s l x (t, h, front, next, rest, a, f, r, e) =
      subst HasNoEnd (sym e) (more_by (head s) (ends s) t (Some h) a, no_end_append front rest ((live s h).no_end front next f) (items_no_end n next rest x r))

  -- to read a list of items is live, where each item is live and the list can always be finished
  pub live_items : (s : S) → Live (Items (Says head) F s) (items head body s)
  live_items s = record {
    law = lawful_items head body F (λ u h. (live u h).law) finish s;
    some = finish s;
    no_end = λ l x f. items_no_end f.0 s l x f.1;
    at_end = ends_items head body only (λ u h. (live u h).at_end) s;
  }

-- ---- a list that the end of a text ends

-- tokens of which the last alone is the end of a text
pub record EndsLast (l : List Placed) : Type 0 where
  pub front : List Placed
  pub last : Placed
  pub is_end : last.is ≡ the_end
  pub before : HasNoEnd front
  pub whole : l ≡ front ++ last ∷ []

module _ {S H : Type 0} (Head : S → Placed → Option H → Type 0) (F : S → H → List Placed → S → Type 0)
    (no_end : (s : S) (h : H) (l : List Placed) (x : S) → F s h l x → HasNoEnd l)
    (at_end : (s : S) (t : Placed) → Head s t None → t.is ≡ the_end) (at_more : (s : S) (t : Placed) (h : H) → Head s t (Some h) → IsMore t.is) where
  -- a list that only the end of a text ends has this end as its last token, and nowhere before
  pub items_end_last : (n : ℕ) (s : S) (l : List Placed) (x : S) → AreItems Head F n s l x → EndsLast l
  unfolding AreItems
  items_end_last zero s l x (t, a, e, b) = record { front = []; last = t; is_end = at_end s t a; before = tt; whole = e }
  items_end_last (suc n) s l x (t, h, front, next, rest, a, f, r, e) =
      let k = items_end_last n next rest x r in
      record {
        front = t ∷ (front ++ k.front);
        last = k.last;
        is_end = k.is_end;
        before = (at_more s t h a, no_end_append front k.front (no_end s h front next f) k.before);
        whole = e ∙ ap (λ (us : List Placed). t ∷ (front ++ us)) k.whole ∙ ap (λ (us : List Placed). t ∷ us) (sym (append_assoc front k.front (k.last ∷ [])));
      }

not-nil : (a more : List Placed) (e : Placed) → a ++ (e ∷ more) ≡ [] → ⊥
not-nil [] more e h = cc
not-nil (t ∷ a) more e h = cc

-- where the end of a text can only be the last of the tokens, nothing stands behind such an end among them
pub aligned : (a front more : List Placed) (e last : Placed) → e.is ≡ the_end → HasNoEnd front → a ++ (e ∷ more) ≡ front ++ last ∷ [] → more ≡ []
aligned [] [] more e last is h k = cc
aligned [] (t ∷ front) more e last is h k =
    let same : e ≡ t = cc in
    absurd (subst (λ (l : Lexeme). IsMore l) (ap (λ (u : Placed). u.is) (sym same) ∙ is) h.0)
aligned (u ∷ a) [] more e last is h k = absurd (not-nil a more e cc)
aligned (u ∷ a) (t ∷ front) more e last is h k =
    let tail : a ++ (e ∷ more) ≡ front ++ last ∷ [] = cc in
    aligned a front more e last is h.1 tail

-- nothing stands behind the end of a text
pub end_last_once : (a more : List Placed) (e : Placed) → e.is ≡ the_end → EndsLast ((a ++ e ∷ []) ++ more) → more ≡ []
end_last_once a more e is k = aligned a k.front more e k.last is k.before (sym (append_assoc a (e ∷ []) more) ∙ k.whole)
