-- What lists of tokens stand for: relations between whole lists and values, from which grammars are made.
use Rattle.std.specs.Prelude.{◌≡◌, ℕ, zero, suc, List, [], ◌∷◌, ◌++◌, Option, Some, None}
use Rattle.snd_reader.specs.Readers.{Placed}

-- which lists of tokens stand for which values
abbrev pub Form : Type 0 → Type 1
Form A = List Placed → A → Type 0

-- first tokens of the one form, then tokens of the other
abbrev pub Then : {A B : Type 0} → (List Placed → A → Type 0) → (A → List Placed → B → Type 0) → List Placed → B → Type 0
Then {A} F G l z = (front : List Placed) × (x : A) × (rest : List Placed) × F front x × G x rest z × (l ≡ front ++ rest)

-- one token, of which this holds
abbrev pub IsToken : {A : Type 0} → (Placed → A → Type 0) → List Placed → A → Type 0
IsToken Is l x = (t : Placed) × (l ≡ t ∷ []) × Is t x

-- no token
abbrev pub IsNothing : {A : Type 0} → A → List Placed → A → Type 0
IsNothing v l x = (l ≡ []) × (x ≡ v)

-- so many items, each behind a token that begins it, and the token that ends the list
unfoldable pub AreItems : {S H : Type 0} → (S → Placed → Option H → Type 0) → (S → H → List Placed → S → Type 0) → ℕ → S → List Placed → S → Type 0
AreItems Head F zero s l x = (t : Placed) × Head s t None × (l ≡ t ∷ []) × (x ≡ s)
AreItems {S} {H} Head F (suc n) s l x = (t : Placed) × (h : H) × (front : List Placed) × (next : S) × (rest : List Placed)
    × Head s t (Some h) × F s h front next × AreItems Head F n next rest x × (l ≡ t ∷ (front ++ rest))

-- items, and the token that ends the list
abbrev pub Items : {S H : Type 0} → (S → Placed → Option H → Type 0) → (S → H → List Placed → S → Type 0) → S → List Placed → S → Type 0
Items Head F s l x = (n : ℕ) × AreItems Head F n s l x

-- some value begins so
abbrev pub Begins : {A : Type 0} → (List Placed → A → Type 0) → List Placed → Type 0
Begins {A} F l = (more : List Placed) × (x : A) × F (l ++ more) x

-- the tokens before it begin some value, and with it they do not
pub record IsFirstBad {A : Type 0} (F : List Placed → A → Type 0) (ts : List Placed) (t : Placed) : Type 0 where
  pub front : List Placed
  pub after : List Placed
  pub whole : ts ≡ front ++ t ∷ after
  pub begun : Begins F front
  pub bad : Begins F (front ++ t ∷ []) → ⊥
