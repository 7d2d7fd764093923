-- Where words are read, there are no fewer words than names.
use Rattle.std.proofs.Common.{◌≡◌, ◌+◌, ◌≤◌, ◌&&◌, ◌||◌, ℕ, Bool, true, false, not, if◌then◌else◌, List, [], ◌∷◌, ◌++◌, map, length, Option, Some, None, refl, ap, arith}
use Rattle.std.specs.Prelude.{option_and_then, find}
use Rattle.std.specs.List.{list_any}
use Rattle.std.specs.Str.{bytes_eq}
use Rattle.option_words.specs.Given.{Use, Word, Part, name, ending, option, other, part_of, with_use, name_given, names_given, option_given, part_given, given, has, are_different, all_new, all_given, value_of, whole, told}
use Rattle.option_words.proofs.Tables.{and-true, not-any, same_words}

-- how many uses there are
abbrev few : Option (List Use) → ℕ
few None = 0
few (Some uses) = length uses

with_use-few : (u : Use) (r : Option (List Use)) (most : ℕ) → few r ≤ most → few (with_use u r) ≤ most + 1
with_use-few u None most h = omega arith
with_use-few u (Some uses) most h = omega (arith, h)

name-few : (names : List Word) (word : Word) (next : List Word → Option (List Use)) (most : ℕ) → ((more : List Word) → few (next more) ≤ most) → few (name_given names word next) ≤ most + 1
name-few [] word next most h = omega arith
name-few (id ∷ names) word next most h = with_use-few (id, word) (next names) most (h names)

names-few : (words names : List Word) → few (names_given words names) ≤ length words
names-few [] names = omega arith
names-few (word ∷ rest) names = omega (arith, name-few names word (names_given rest) (length rest) (names-few rest))

option-few : (f : Option Word) (inside : Option Word) (next : Option Word → Option (List Use)) (most : ℕ) → ((awaits : Option Word) → few (next awaits) ≤ most) → few (option_given f inside next) ≤ most + 1
option-few None inside next most h = omega arith
option-few (Some id) None next most h = omega (arith, h (Some id))
option-few (Some id) (Some v) next most h = with_use-few (id, v) (next None) most (h None)

part-few : (options names : List Word) (awaits : Option Word) (part : Part) (word : Word) (rest : List Word) (next : List Word → Option Word → Option (List Use))
    → ((more : List Word) (awaits : Option Word) → few (next more awaits) ≤ length rest) → few (part_given options names awaits part word rest next) ≤ length rest + 1
part-few options names None name word rest next h = name-few names word (λ more. next more None) (length rest) (λ more. h more None)
part-few options names None ending word rest next h = omega (arith, names-few rest names)
part-few options names None (option called inside) word rest next h = option-few (find (λ o. bytes_eq o called) options) inside (next names) (length rest) (h names)
part-few options names None other word rest next h = omega arith
part-few options names (Some id) name word rest next h = with_use-few (id, word) (next names None) (length rest) (h names None)
part-few options names (Some id) ending word rest next h = omega arith
part-few options names (Some id) (option called inside) word rest next h = omega arith
part-few options names (Some id) other word rest next h = omega arith

given-few : (options words names : List Word) (awaits : Option Word) → few (given options words names awaits) ≤ length words
given-few options [] names None = omega arith
given-few options [] names (Some id) = omega arith
given-few options (word ∷ rest) names awaits = omega (arith, part-few options names awaits (part_of word) word rest (given options rest) (given-few options rest))

-- ---- different names that are given words are no more than these

-- the uses without the first one of this
abbrev dropped : Word → List Use → List Use
dropped id [] = []
dropped id (u ∷ us) = if bytes_eq u.0 id then us else u ∷ dropped id us

one_fewer : (id : Word) (uses : List Use) → has id uses ≡ true → length uses ≡ length (dropped id uses) + 1
one_fewer id [] some = absurd cc
one_fewer id (u ∷ us) some = go (bytes_eq u.0 id) some (one_fewer id us)
  where
    go : (b : Bool) → (b || has id us) ≡ true → (has id us ≡ true → length us ≡ length (dropped id us) + 1) → length (u ∷ us) ≡ length (if b then us else u ∷ dropped id us) + 1
    go true some more = omega arith
    go false some more = omega (arith, more some)

has_still : (id other_id : Word) (uses : List Use) → bytes_eq id other_id ≡ false → has other_id (dropped id uses) ≡ has other_id uses
has_still id other_id [] apart = refl
has_still id other_id (u ∷ us) apart = go (bytes_eq u.0 id) refl (has_still id other_id us apart)
  where
    go : (b : Bool) → bytes_eq u.0 id ≡ b → has other_id (dropped id us) ≡ has other_id us → has other_id (if b then us else u ∷ dropped id us) ≡ bytes_eq u.0 other_id || has other_id us
    go true is more = let same : u.0 ≡ id = same_words u.0 id is in rw (same, apart) refl
    go false is more = ap (λ b. bytes_eq u.0 other_id || b) more

given_still : (id : Word) (uses : List Use) (more : List Word) → list_any (bytes_eq id) more ≡ false → all_given more uses ≡ true → all_given more (dropped id uses) ≡ true
given_still id uses [] apart all = refl
given_still id uses (other_id ∷ more) apart all = go (bytes_eq id other_id) refl apart (given_still id uses more)
  where
    go : (b : Bool) → bytes_eq id other_id ≡ b → (b || list_any (bytes_eq id) more) ≡ false → (list_any (bytes_eq id) more ≡ false → all_given more uses ≡ true → all_given more (dropped id uses) ≡ true)
        → has other_id (dropped id uses) && all_given more (dropped id uses) ≡ true
    go true is bad still = absurd cc
    go false is apart still =
        let both : (has other_id uses ≡ true) × (all_given more uses ≡ true) = and-true _ _ all in
        rw (has_still id other_id uses is, both.0, still apart both.1) refl

names-fit : (names : List Word) (uses : List Use) → are_different names ≡ true → all_given names uses ≡ true → length names ≤ length uses
names-fit [] uses different all = omega arith
names-fit (id ∷ more) uses different all =
    let first : (not (list_any (bytes_eq id) more) ≡ true) × (are_different more ≡ true) = and-true _ _ different in
    let both : (has id uses ≡ true) × (all_given more uses ≡ true) = and-true _ _ all in
    omega (arith, one_fewer id uses both.0, names-fit more (dropped id uses) first.1 (given_still id uses more (not-any _ first.0) both.1))

-- where words are read, there are no fewer words than names
pub no_fewer_words : (names options words : List Word) (found : List (Option Word)) → are_different names ≡ true → told names options words ≡ Some found → length names ≤ length words
no_fewer_words names options words found different is = go (given options words names None) (given-few options words names None) is
  where
    one : (uses : List Use) (a b : Bool) → all_given names uses ≡ b → (if a && b then Some (map (value_of uses) (names ++ options)) else None) ≡ Some found → length names ≤ length uses
    one uses true true all is = names-fit names uses different all
    one uses true false all is = absurd cc
    one uses false b all is = absurd cc

    go : (r : Option (List Use)) → few r ≤ length words → option_and_then (whole names options) r ≡ Some found → length names ≤ length words
    go None h is = absurd cc
    go (Some uses) h is = omega (arith, h, one uses (all_new [] uses) (all_given names uses) refl is)
