-- The tests of single tokens find what the grammar of models says of them.
use Rattle.std.proofs.Common.{◌≡◌, ℕ, Bool, true, false, cond, List, [], ◌∷◌, Option, Some, None, refl, ap, subst, ◌∙◌, nat_eq}
use Rattle.std.specs.Prelude.{◌↔◌, Result, Ok, Err, if◌then◌else◌}
use Rattle.std.specs.List.{find}
use Rattle.std.specs.Cmp.Lexicographic.{pointwise, bytes_decides}
use Rattle.snd_reader.specs.declared.fault.Complaint.{Complaint}
use Rattle.snd_reader.specs.declared.fault.Complaint.TheVariants.{Ended}
use Rattle.snd_reader.specs.Readers.{Lexeme, word, equals_sign, the_end, Placed}
use Rattle.snd_reader.specs.Tests.{equals_test}
use Rattle.snd_model.specs.declared.keys.Key.{Key}
use Rattle.snd_model.specs.declared.setting.Setting.{Setting}
use Rattle.snd_model.specs.declared.draft.Draft.{Draft}
use Rattle.snd_model.specs.Table.{all_keys, key_word, key_named, setting_named}
use Rattle.snd_model.specs.Grammar.{has_setting, is_complete, IsValueWord, BeginsPair}
use Rattle.snd_model.specs.Tests.{once, key_begun, key_head, valued, value_test}
use Rattle.snd_model.proofs.Tabled.{of_key}

-- the test of an equals sign finds exactly these good
pub equals_same : (t : Placed) (u : Unit {0}) → (equals_test t.is ≡ Ok u) ↔ (t.is ≡ equals_sign)
equals_same t u = (into t.is, λ e. ap equals_test e)
  where
    into : (l : Lexeme) → equals_test l ≡ Ok u → l ≡ equals_sign
    into equals_sign e = refl
    into l e = absurd cc

value-into : (k : Key) (t : Placed) (l : Lexeme) (s : Setting) → t.is ≡ l → value_test k l ≡ Ok s → IsValueWord k t s
value-into k t (word bytes) s h e = by (setting_named k bytes) refl e
  where
    by : (o : Option Setting) → setting_named k bytes ≡ o → valued o ≡ Ok s → IsValueWord k t s
    by None n e = absurd cc
    by (Some u) n e = let same : u ≡ s = cc in (bytes, h, n ∙ ap (λ (v : Setting). Some v) same)
value-into k t l s h e = absurd cc

value-back : (k : Key) (t : Placed) (s : Setting) → IsValueWord k t s → value_test k t.is ≡ Ok s
value-back k t s (bytes, h, n) = ap (value_test k) h ∙ ap valued n

-- the test of a value finds exactly the spellings in the row of the key
pub value_same : (k : Key) (t : Placed) (s : Setting) → (value_test k t.is ≡ Ok s) ↔ IsValueWord k t s
value_same k t s = (value-into k t t.is s refl, value-back k t s)

-- ---- keys

-- what is found in a list passes the test
found_good : {X : Type 0} (test : X → Bool) (xs : List X) (x : X) → find test xs ≡ Some x → test x ≡ true
found_good test [] x e = absurd cc
found_good {X} test (y ∷ ys) x e = by (test y) refl (found_good test ys x) e
  where
    by : (b : Bool) → test y ≡ b → (find test ys ≡ Some x → test x ≡ true) → cond b (Some y) (find test ys) ≡ Some x → test x ≡ true
    by true h later e = let same : y ≡ x = cc in subst (λ (z : X). test z ≡ true) same h
    by false h later e = later e

named-into : (bytes : List ℕ) (k : Key) → key_named bytes ≡ Some k → bytes ≡ key_word k
named-into bytes k e = (bytes_decides bytes (key_word k)).0 (found_good (λ j. pointwise nat_eq bytes (key_word j)) all_keys k e)

-- what the end of a text stands for
abbrev pub ending : Bool → Result (Option Key) Complaint
ending b = if b then Ok None else Err Ended

key-into : (d : Draft) (t : Placed) (l : Lexeme) (x : Option Key) → t.is ≡ l → key_head d l ≡ Ok x → BeginsPair d t x
key-into d t (word bytes) x h e = by (key_named bytes) refl x e
  where
    by-once : (k : Key) (b : Bool) → key_named bytes ≡ Some k → has_setting d k ≡ b → (x : Option Key) → once b k ≡ Ok x → BeginsPair d t x
    by-once k true n new x e = absurd cc
    by-once k false n new None e = absurd cc
    by-once k false n new (Some j) e = let same : k ≡ j = cc in subst (λ (i : Key). BeginsPair d t (Some i)) same (h ∙ ap word (named-into bytes k n), new)

    by : (o : Option Key) → key_named bytes ≡ o → (x : Option Key) → key_begun d o ≡ Ok x → BeginsPair d t x
    by None n x e = absurd cc
    by (Some k) n x e = by-once k (has_setting d k) n refl x e
key-into d t the_end x h e = by (is_complete d) refl x e
  where
    by : (b : Bool) → is_complete d ≡ b → (x : Option Key) → ending b ≡ Ok x → BeginsPair d t x
    by true complete None e = (h, complete)
    by true complete (Some k) e = absurd cc
    by false complete x e = absurd cc
key-into d t l x h e = absurd cc

key-back : (d : Draft) (t : Placed) (x : Option Key) → BeginsPair d t x → key_head d t.is ≡ Ok x
key-back d t None (h, complete) = ap (key_head d) h ∙ ap ending complete
key-back d t (Some k) (h, new) = ap (key_head d) h ∙ ap (key_begun d) (of_key k).0 ∙ ap (λ (b : Bool). once b k) new

-- in a key's place the test finds exactly the words of keys without a value, and the end of the text where each has one
pub key_same : (d : Draft) (t : Placed) (x : Option Key) → (key_head d t.is ≡ Ok x) ↔ BeginsPair d t x
key_same d t x = (key-into d t t.is x refl, key-back d t x)
