-- The columns of a demand as a set that keeps its order.
use Rattle.std.proofs.Common.{◌≡◌, ℕ, ◌==◌, List, [], ◌∷◌, refl, arith}
use Rattle.std.specs.List.{list_any}
use Rattle.std.proofs.lemmas.Bool.Decides.{nat_tests}
use Rattle.plan_base.specs.declared.ids.ArcId.{ArcId}
use Rattle.column_pool.specs.Columns.{is_same_path, is_column}

same_sides : (a b : ℕ) → (a == b) ≡ (b == a)
same_sides a b = grind (arith, nat_tests)

is_same_path-turned : (xs ys : List ArcId) → is_same_path xs ys ≡ is_same_path ys xs
is_same_path-turned [] [] = refl
is_same_path-turned [] (b ∷ ys) = refl
is_same_path-turned (a ∷ xs) [] = refl
is_same_path-turned (a ∷ xs) (b ∷ ys) = rw (same_sides a.0 b.0, is_same_path-turned xs ys) refl

-- the set finds the path where it is a column
pub is_column_found : (paths : List (List ArcId)) (path : List ArcId) → list_any (is_same_path path) paths ≡ is_column paths path
is_column_found [] path = refl
is_column_found (other ∷ paths) path = rw (is_same_path-turned path other, is_column_found paths path) refl
