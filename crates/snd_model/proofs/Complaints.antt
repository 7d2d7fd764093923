-- Model texts are never refused for a number or a long name.
use Rattle.std.proofs.Common.{◌≡◌, ℕ, zero, suc, Bool, true, false, List, [], ◌∷◌, Option, Some, None, subst}
use Rattle.std.specs.Prelude.{Result, Ok, Err}
use Rattle.snd_reader.specs.declared.fault.Complaint.{Complaint}
use Rattle.snd_reader.specs.declared.fault.Complaint.TheVariants.{Unexpected, Number, Twice, LongId, Ended}
use Rattle.snd_reader.specs.Readers.{Lexeme, word, open_bracket, close_bracket, equals_sign, the_end, Placed, Stopped, Reader, ◌>>=◌, judged, token, turn, turns}
use Rattle.snd_reader.specs.Tests.{equals_test}
use Rattle.snd_model.specs.declared.keys.Key.{Key}
use Rattle.snd_model.specs.declared.setting.Setting.{Setting}
use Rattle.snd_model.specs.declared.draft.Draft.{Draft}
use Rattle.snd_model.specs.Table.{key_named, setting_named}
use Rattle.snd_model.specs.Grammar.{has_setting, is_complete, no_settings}
use Rattle.snd_model.specs.Tests.{once, key_begun, key_head, valued, value_test}
use Rattle.snd_model.specs.Reading.{equals, value, key_turn, pair, pairs}
use Rattle.snd_model.proofs.Agree.{ending}

-- the complaint is one of those that model texts get
abbrev pub IsPlain : Complaint → Type 0
IsPlain (Unexpected w) = Unit {0}
IsPlain Twice = Unit {0}
IsPlain Ended = Unit {0}
IsPlain (Number f) = ⊥
IsPlain LongId = ⊥

abbrev IsPlainTest : {A : Type 0} → Result A Complaint → Type 0
IsPlainTest (Ok x) = Unit {0}
IsPlainTest (Err c) = IsPlain c

abbrev IsPlainStop : {A : Type 0} → Result A Stopped → Type 0
IsPlainStop (Ok x) = Unit {0}
IsPlainStop (Err y) = IsPlain y.0

-- ---- single tokens

plain-equals : (l : Lexeme) → IsPlainTest (equals_test l)
plain-equals (word bytes) = tt
plain-equals open_bracket = tt
plain-equals close_bracket = tt
plain-equals equals_sign = tt
plain-equals the_end = tt

plain-valued : (o : Option Setting) → IsPlainTest (valued o)
plain-valued None = tt
plain-valued (Some s) = tt

plain-value : (k : Key) (l : Lexeme) → IsPlainTest (value_test k l)
plain-value k (word bytes) = plain-valued (setting_named k bytes)
plain-value k open_bracket = tt
plain-value k close_bracket = tt
plain-value k equals_sign = tt
plain-value k the_end = tt

plain-once : (b : Bool) (k : Key) → IsPlainTest (once b k)
plain-once true k = tt
plain-once false k = tt

plain-begun : (d : Draft) (o : Option Key) → IsPlainTest (key_begun d o)
plain-begun d None = tt
plain-begun d (Some k) = plain-once (has_setting d k) k

plain-ending : (b : Bool) → IsPlainTest (ending b)
plain-ending true = tt
plain-ending false = tt

plain-key : (d : Draft) (l : Lexeme) → IsPlainTest (key_head d l)
plain-key d (word bytes) = plain-begun d (key_named bytes)
plain-key d open_bracket = tt
plain-key d close_bracket = tt
plain-key d equals_sign = tt
plain-key d the_end = plain-ending (is_complete d)

-- ---- readers

plain-judged : {A : Type 0} (t : Placed) (ts : List Placed) (j : Result A Complaint) → IsPlainTest j → IsPlainStop (judged t ts j)
plain-judged t ts (Ok x) h = tt
plain-judged t ts (Err c) h = h

plain-token : {A : Type 0} (test : Placed → Result A Complaint) → ((t : Placed) → IsPlainTest (test t)) → (ts : List Placed) → IsPlainStop (token test ts)
plain-token test h [] = tt
plain-token test h (t ∷ ts) = plain-judged t ts (test t) (h t)

plain-bind : {A B : Type 0} (r : Result A Stopped) (f : A → Result B Stopped) → IsPlainStop r → ((x : A) → IsPlainStop (f x)) → IsPlainStop (r >>= f)
plain-bind (Ok x) f h k = k x
plain-bind (Err y) f h k = h

plain-pair : (d : Draft) (k : Key) (ts : List Placed) → IsPlainStop (pair d k ts)
unfolding pair
plain-pair d k ts = plain-bind (equals ts) _ (plain-token (λ t. equals_test t.is) (λ t. plain-equals t.is) ts) (λ p. plain-bind (value k p.1) _ (plain-token (λ t. value_test k t.is) (λ t. plain-value k t.is) p.1) (λ q. tt))

plain-turn : (later : Draft → Reader Draft) → ((s : Draft) (ts : List Placed) → IsPlainStop (later s ts)) → (s : Draft) (t : Placed) (ts : List Placed) (j : Result (Option Key) Complaint) → IsPlainTest j → IsPlainStop (turn pair later s t ts j)
plain-turn later h s t ts (Ok None) k = tt
plain-turn later h s t ts (Ok (Some key)) k = plain-bind (pair s key ts) _ (plain-pair s key ts) (λ p. h p.0 p.1)
plain-turn later h s t ts (Err c) k = k

plain-turns : (n : ℕ) (s : Draft) (ts : List Placed) → IsPlainStop (turns key_turn pair n s ts)
unfolding turns
plain-turns zero s ts = tt
plain-turns (suc n) s [] = tt
plain-turns (suc n) s (t ∷ ts) = plain-turn (turns key_turn pair n) (plain-turns n) s t ts (key_head s t.is) (plain-key s t.is)

-- where the reading of pairs stops, its complaint is about no number and no long name
pub plain_pairs : (ts : List Placed) (c : Complaint) (rest : List Placed) → pairs ts ≡ Err (c, rest) → IsPlain c
plain_pairs ts c rest e = subst (λ (r : Result (Draft × List Placed) Stopped). IsPlainStop r) e (plain-turns _ no_settings ts)
