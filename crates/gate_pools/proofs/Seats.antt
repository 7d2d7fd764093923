-- Seats that are taken from the end of a list.
use Rattle.std.proofs.Common.{◌≡◌, List, [], ◌∷◌, ◌++◌, Some, All}
use Rattle.std.proofs.lemmas.List.Elements.{All-pop}

-- what holds of each in a list holds of the last one and of the one before it
pub last_two : {L : Type 0} (P : L → Type 0) (xs ys zs : List L) (first second : L) → xs ≡ ys ++ second ∷ [] → ys ≡ zs ++ first ∷ [] → All P xs → P first × P second
last_two P xs ys zs first second e f all =
    let two = All-pop P xs ys (Some second) e all in
    let one = All-pop P ys zs (Some first) f two.0 in
    (one.1, two.1)
