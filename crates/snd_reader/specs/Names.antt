-- Names, and the numbers that they have among names.
use Rattle.std.specs.Prelude.{ℕ, Bool, nat_eq, List, position, Option}
use Rattle.std.specs.List.{list_any}
use Rattle.std.specs.Cmp.Lexicographic.{pointwise}

-- it is one of these names
abbrev pub is_among : List (List ℕ) → List ℕ → Bool
is_among names bytes = list_any (λ name. pointwise nat_eq bytes name) names

-- its number among names, from 0 on, if it is one of them
abbrev pub number_of : List (List ℕ) → List ℕ → Option ℕ
number_of names bytes = position (λ name. pointwise nat_eq bytes name) names
