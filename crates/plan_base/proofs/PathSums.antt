-- Sums over the arcs of a simple path, link by link or place by place.
use Rattle.std.proofs.Common.{◌≡◌, ◌≢◌, ℕ, zero, suc, ◌+◌, ◌*◌, ◌/◌, ◌<◌, ◌≤◌, Bool, true, false, ◌==◌, List, [], ◌∷◌, length, if◌then◌else◌, refl, sym, ap, ◌∙◌, arith}
use Rattle.std.specs.List.{sum_by}
use Rattle.std.proofs.lemmas.List.Sums.{sum_by-cons}
use Rattle.std.proofs.lemmas.Bool.{eqb-true, eqb-false, ne_eqb, ltb-true}
use Rattle.plan_base.specs.declared.ids.ArcId.{ArcId}
use Rattle.plan_base.specs.declared.parts.Demand.{Demand}
use Rattle.plan_base.specs.declared.parts.Parts.{Parts}
use Rattle.plan_base.specs.Sums.{sum_below}
use Rattle.plan_base.specs.Arcs.{link_of, is_arc}
use Rattle.plan_base.specs.Places.{is_two_way, places, place_of}
use Rattle.plan_base.specs.Paths.{arc_at, uses_by, IsSimplePath}
use Rattle.plan_base.specs.Walks.{HasOnce, HasPlacesOnce}
use Rattle.plan_base.proofs.Bools.{and-first}
use Rattle.plan_base.proofs.SimplePaths.{uses_link-once}

HasOnce-rest : (kind : ArcId → ℕ) (n : ℕ) (a : ArcId) (arcs : List ArcId) → HasOnce kind n (a ∷ arcs) → HasOnce kind n arcs
HasOnce-rest kind n a arcs h = record {
  within = λ i below. h.within (suc i) (omega arith);
  once = λ i j first second same. (let e : suc i ≡ suc j = h.once (suc i) (suc j) (omega arith) (omega arith) same in omega arith);
}

-- where no arc is of this number, the path does not use it
pub unused : (kind : ArcId → ℕ) (e : ℕ) (arcs : List ArcId) → ((i : ℕ) → i < length arcs → kind (arc_at arcs i) ≢ e) → uses_by kind e arcs ≡ false
unused kind e [] h = refl
unused kind e (a ∷ arcs) h =
    let here : (kind a == e) ≡ false = ne_eqb _ _ (h 0 (omega arith)) in
    rw (here, unused kind e arcs (λ i below. h (suc i) (omega arith))) refl

-- what a path takes of f at a number
abbrev pub taken : (ArcId → ℕ) → (ℕ → ℕ) → List ArcId → ℕ → ℕ
taken kind f arcs e = if uses_by kind e arcs then f e else 0

-- below a number, one arc of it more changes nothing
taken-before : (kind : ArcId → ℕ) (f : ℕ → ℕ) (a : ArcId) (arcs : List ArcId) (n : ℕ) → n ≤ kind a → sum_below (taken kind f (a ∷ arcs)) n ≡ sum_below (taken kind f arcs) n
taken-before kind f a arcs zero h = refl
taken-before kind f a arcs (suc n) h =
    let other : (kind a == n) ≡ false = ne_eqb (kind a) n (λ same. absurd (omega arith)) in
    rw (taken-before kind f a arcs n (omega arith), other) refl

taken-more : (kind : ArcId → ℕ) (f : ℕ → ℕ) (a : ArcId) (arcs : List ArcId) (n : ℕ) → kind a < n → uses_by kind (kind a) arcs ≡ false → sum_below (taken kind f (a ∷ arcs)) n ≡ f (kind a) + sum_below (taken kind f arcs) n
taken-more kind f a arcs zero h new = absurd (omega arith)
taken-more kind f a arcs (suc n) h new = by_cases (kind a == n) refl (λ below. taken-more kind f a arcs n below new)
  where
    by_cases : (b : Bool) → (kind a == n) ≡ b → (kind a < n → sum_below (taken kind f (a ∷ arcs)) n ≡ f (kind a) + sum_below (taken kind f arcs) n) → sum_below (taken kind f (a ∷ arcs)) (suc n) ≡ f (kind a) + sum_below (taken kind f arcs) (suc n)
    by_cases true is earlier =
        let same : kind a ≡ n = eqb-true _ _ is in
        let before = taken-before kind f a arcs n (omega arith) in
        let here : taken kind f (a ∷ arcs) n ≡ f (kind a) = rw is (ap f (sym same)) in
        let old : taken kind f arcs n ≡ 0 = ap (taken kind f arcs) (sym same) ∙ rw new refl in
        omega arith
    by_cases false is earlier =
        let differs : kind a ≢ n = eqb-false _ _ is in
        let before = earlier (omega arith) in
        let here : taken kind f (a ∷ arcs) n ≡ taken kind f arcs n = rw is refl in
        omega arith

-- a sum over the arcs of a path is a sum over the numbers that it uses
pub sum_by-taken : (kind : ArcId → ℕ) (f : ℕ → ℕ) (n : ℕ) (arcs : List ArcId) → HasOnce kind n arcs → sum_by (λ a. f (kind a)) arcs ≡ sum_below (taken kind f arcs) n
sum_by-taken kind f n [] h = none n
  where
    none : (m : ℕ) → 0 ≡ sum_below (λ e. 0) m
    none zero = refl
    none (suc m) = omega (arith, none m)
sum_by-taken kind f n (a ∷ arcs) h =
    let new : uses_by kind (kind a) arcs ≡ false = unused kind (kind a) arcs (λ i below same. absurd (let e : suc i ≡ 0 = h.once (suc i) 0 (omega arith) (omega arith) same in omega arith)) in
    let rest = sum_by-taken kind f n arcs (HasOnce-rest kind n a arcs h) in
    let more = taken-more kind f a arcs n (h.within 0 (omega arith)) new in
    let cons = sum_by-cons (λ (x : ArcId). f (kind x)) a arcs in
    omega arith

-- an arc of the instance is of one of its places
pub place-within : (p : Parts) (a : ArcId) → is_arc p a ≡ true → place_of p a < places p
place-within p a exists = by_cases (is_two_way p.orient)
  where
    link_in : link_of a < length p.links
    link_in = ltb-true _ _ (and-first _ _ exists)

    by_cases : (b : Bool) → (if b then a.0 else link_of a) < (if b then 2 * length p.links else length p.links)
    by_cases true = omega (arith, link_in)
    by_cases false = link_in

-- arcs of one place are of one link
pub place-link : (p : Parts) (a b : ArcId) → place_of p a ≡ place_of p b → link_of a ≡ link_of b
place-link p a b = by_cases (is_two_way p.orient)
  where
    by_cases : (c : Bool) → (if c then a.0 else link_of a) ≡ (if c then b.0 else link_of b) → link_of a ≡ link_of b
    by_cases true same = ap (λ (n : ℕ). n / 2) same
    by_cases false same = same

-- a simple path uses each place at most once, and only places of the instance
pub HasPlacesOnce-simple : (p : Parts) (k : Demand) (arcs : List ArcId) → IsSimplePath p k arcs → HasPlacesOnce p (places p) arcs
HasPlacesOnce-simple p k arcs simple = record {
  within = λ i below. place-within p (arc_at arcs i) (simple.are_arcs i below);
  once = λ i j first second same. uses_link-once p k arcs i j simple first second (place-link p (arc_at arcs i) (arc_at arcs j) same);
}
