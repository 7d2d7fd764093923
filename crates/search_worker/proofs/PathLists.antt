-- Paths that are gathered demand by demand.
use Rattle.std.proofs.Common.{◌≡◌, ℕ, ◌+◌, ◌<◌, ◌⊎◌, inl, inr, List, [], ◌∷◌, ◌++◌, length, slice_index_or, refl, sym, ap, subst, ◌∙◌, arith}
use Rattle.std.proofs.lemmas.List.{get_or_append_left, length-append}
use Rattle.std.proofs.Math.Seq.{get_or-append_seam}
use Rattle.plan_base.specs.declared.ids.ArcId.{ArcId}
use Rattle.plan_base.specs.declared.parts.Parts.{Parts}
use Rattle.plan_base.specs.Arcs.{demand_at}
use Rattle.plan_base.specs.Paths.{IsSimplePath}
use Rattle.completions.specs.Completions.{ArePaths}

-- one simple path for each of the first demands, in order
pub record AreFirstPaths (p : Parts) (count : ℕ) (paths : List (List ArcId)) : Type 0 where
  pub count_is : length paths ≡ count
  pub simple : (k : ℕ) → k < count → IsSimplePath p (demand_at p k) (slice_index_or paths k [])

-- the empty list has the paths of the first demands, as no demand is counted
pub no_paths : (p : Parts) → AreFirstPaths p 0 []
no_paths p = record { count_is = refl; simple = λ k within. absurd (omega arith) }

-- a simple path of the next demand behind the paths of the first demands makes those of one demand more
pub one_path : (p : Parts) (count : ℕ) (paths more : List (List ArcId)) (path : List ArcId) → AreFirstPaths p count paths
    → IsSimplePath p (demand_at p count) path → more ≡ paths ++ path ∷ [] → AreFirstPaths p (count + 1) more
one_path p count paths more path old simple is = subst (AreFirstPaths p (count + 1)) (sym is) (record {
  count_is = omega (arith, length-append paths (path ∷ []), old.count_is);
  simple = λ k within. elim (last_or_before k within) [
    | inl e ↦
        let at : slice_index_or (paths ++ path ∷ []) k [] ≡ path = ap (λ (n : ℕ). slice_index_or (paths ++ path ∷ []) n []) (e ∙ sym old.count_is) ∙ get_or-append_seam paths path [] [] in
        subst (IsSimplePath p (demand_at p k)) (sym at) (subst (λ (n : ℕ). IsSimplePath p (demand_at p n) path) (sym e) simple)
    | inr before ↦
        let at : slice_index_or (paths ++ path ∷ []) k [] ≡ slice_index_or paths k [] = get_or_append_left paths (path ∷ []) [] k (omega (arith, old.count_is)) in
        subst (IsSimplePath p (demand_at p k)) (sym at) (old.simple k before)
  ];
})
  where
    last_or_before : (k : ℕ) → k < count + 1 → (k ≡ count) ⊎ (k < count)
    last_or_before k within = grind arith

-- paths of the first demands, as many as the instance has, are a simple path for each demand
pub all_paths : (p : Parts) (paths : List (List ArcId)) → AreFirstPaths p (length p.demands) paths → ArePaths p paths
all_paths p paths h = record { count = h.count_is; simple = h.simple }
