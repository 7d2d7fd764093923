-- The paths of a round, one entry after another.
use Rattle.std.proofs.Common.{◌≡◌, ℕ, suc, ◌+◌, ◌<◌, ◌≤◌, List, [], ◌∷◌, ◌++◌, length, get_or, drop, Option, Some, None, refl, sym, ap, ◌∙◌, add-one, append_assoc, append-nil, drop-cons, drop_of_length-le}
use Rattle.plan_base.specs.declared.ids.ArcId.{ArcId}
use Rattle.search_machine.specs.declared.tree.Found.{Found}
use Rattle.search_nodes.specs.Rounds.{paths_of}

paths_of-cons : (x : Option Found) (rest : List (Option Found)) → paths_of (x ∷ rest) ≡ paths_of (x ∷ []) ++ paths_of rest
paths_of-cons None rest = refl
paths_of-cons (Some found) rest = refl

-- the paths so far, with those that are still to come, are all paths
pub paths-more : (paths all new : List (List ArcId)) (found : List (Option Found)) (i : ℕ) (x : Option Found) → i < length found → x ≡ get_or found i x
    → new ≡ paths ++ paths_of (x ∷ []) → paths ++ paths_of (drop i found) ≡ all → new ++ paths_of (drop (i + 1) found) ≡ all
paths-more paths all new found i x within read e before =
    let here : drop i found ≡ x ∷ drop (suc i) found = drop-cons found i x within ∙ ap (λ (y : Option Found). y ∷ drop (suc i) found) (sym read) in
    let last : paths ++ (paths_of (x ∷ []) ++ paths_of (drop (suc i) found)) ≡ all =
    ap (λ (ps : List (List ArcId)). paths ++ ps) (sym (paths_of-cons x (drop (suc i) found)))
    ∙ ap (λ (xs : List (Option Found)). paths ++ paths_of xs) (sym here) ∙ before in
    let split : (paths ++ paths_of (x ∷ [])) ++ paths_of (drop (suc i) found) ≡ all = rw append_assoc last in
    rw add-one (ap (λ (ps : List (List ArcId)). ps ++ paths_of (drop (suc i) found)) e ∙ split)

-- when no entry of the round is still to come, the paths so far are all its paths
pub paths-all : (paths all : List (List ArcId)) (found : List (Option Found)) (i : ℕ) → length found ≤ i → paths ++ paths_of (drop i found) ≡ all → paths ≡ all
paths-all paths all found i past before =
    let none : drop i found ≡ [] = drop_of_length-le found {i = i} past in
    let end : paths ++ [] ≡ all = ap (λ (xs : List (Option Found)). paths ++ paths_of xs) (sym none) ∙ before in
    rw append-nil at end
