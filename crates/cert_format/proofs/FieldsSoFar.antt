-- What is within its fields so far still is with one item more.
use Rattle.std.proofs.Common.{ℕ, ◌+◌, ◌<◌, List, [], ◌∷◌, ◌++◌, length, get_or, take, sym, subst}
use Rattle.std.specs.List.{AllByRecursion}
use Rattle.std.proofs.lemmas.List.{take_more}

joined : {A : Type 0} (P : A → Type 0) (xs : List A) (x : A) → AllByRecursion P xs → P x → AllByRecursion P (xs ++ x ∷ [])
joined P [] x all px = (px, tt)
joined P (y ∷ xs) x all px = (all.0, joined P xs x all.1 px)

-- what holds of the first items and of the next one holds of the first items with this one
pub fields_more : {A : Type 0} (P : A → Type 0) (xs : List A) (i : ℕ) (d : A) → i < length xs → AllByRecursion P (take i xs) → P (get_or xs i d) → AllByRecursion P (take (i + 1) xs)
fields_more P xs i d lt all px = subst (AllByRecursion P) (sym (take_more xs i d lt)) (joined P (take i xs) (get_or xs i d) all px)
