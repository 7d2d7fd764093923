-- Paths stay what they are while demands are rerouted.
use Rattle.std.proofs.Common.{◌≡◌, ℕ, zero, suc, ◌<◌, inl, inr, List, [], ◌∷◌, length, refl, ap, ◌∙◌, arith}
use Rattle.std.proofs.Math.ListN.{set, length-set}
use Rattle.std.proofs.lemmas.List.{get_or-set_same, get_or-set_other}
use Rattle.plan_base.specs.declared.ids.ArcId.{ArcId}
use Rattle.plan_base.specs.declared.parts.Parts.{Parts}
use Rattle.plan_base.specs.Arcs.{demand_at}
use Rattle.plan_base.specs.Paths.{IsSimplePath}
use Rattle.link_steps.proofs.Order.{same_or_not}
use Rattle.completions.specs.Completions.{ArePaths}

-- one path is replaced
pub paths_set : (p : Parts) (paths : List (List ArcId)) (n : ℕ) (path : List ArcId) → n < length p.demands → ArePaths p paths → IsSimplePath p (demand_at p n) path → ArePaths p (set paths n path)
paths_set p paths n path within are simple =
    let long = are.count in
    record {
      count = length-set paths n path ∙ long;
      simple = λ k below.
          elim (same_or_not k n) [
            | inl is ↦ rw (is, get_or-set_same paths n path [] (omega arith)) simple
            | inr is_not ↦ rw (get_or-set_other paths n k path [] is_not) (are.simple k below)
          ];
    }

-- an element that is replaced twice
pub set_twice : (xs : List (List ArcId)) (n : ℕ) (x y : List ArcId) → set (set xs n x) n y ≡ set xs n y
set_twice [] n x y = refl
set_twice (z ∷ xs) zero x y = refl
set_twice (z ∷ xs) (suc n) x y = ap (λ (ys : List (List ArcId)). z ∷ ys) (set_twice xs n x y)
