-- Paths and splits of worked instances, whose arcs are known by their numbers.
use Rattle.std.proofs.Common.{◌≡◌, ◌≢◌, ℕ, zero, suc, ◌<◌, ◌⊎◌, inl, inr, true, false, List, [], ◌∷◌, length, IsTrue, None, refl, sym, ap, ◌∙◌, arith}
use Rattle.std.proofs.lemmas.List.Elements.{All-nil, All-cons}
use Rattle.plan_base.specs.declared.ids.ArcId.{ArcId}
use Rattle.plan_base.specs.declared.ids.DemandId.{DemandId}
use Rattle.plan_base.specs.declared.parts.Demand.{Demand}
use Rattle.plan_base.specs.declared.parts.Parts.{Parts}
use Rattle.plan_base.specs.Arcs.{is_arc, tail_of, head_of, demand_at}
use Rattle.plan_base.specs.Paths.{IsSimplePath}
use Rattle.plan_base.specs.DesignFaults.{path_fault}
use Rattle.plan_base.proofs.PathLaws.{IsSimplePath-path_fault}
use Rattle.arc_restrict.specs.Restrictions.{Forbidden, none_forbidden, with_forbidden, is_among, IsPermittedPath}
use Rattle.proof_tree.specs.Splits.{IsSide, IsSplit}
use Rattle.proof_tree.specs.Triangle.{node, arc}

-- the number of the first demand
abbrev pub first_demand : DemandId
first_demand = record { 0 = 0 }

-- what is forbidden where only this arc is forbidden to the first demand
abbrev pub without : ℕ → Forbidden
without n = with_forbidden none_forbidden first_demand (arc n ∷ [])

-- an arc is known by its number
pub same_arc : (a : ArcId) (n : ℕ) → a.0 ≡ n → a ≡ arc n
same_arc a n h = ap (λ (m : ℕ). arc m) h

-- one arc without a fault that is not forbidden is a permitted path
pub one_arc-permitted : (p : Parts) (r : Forbidden) (k n : ℕ) → path_fault p first_demand (demand_at p k) (arc n ∷ []) ≡ None → r k (arc n) ≡ false → IsPermittedPath p r k (arc n ∷ [])
one_arc-permitted p r k n sound free = record {
  simple = IsSimplePath-path_fault p first_demand (demand_at p k) (arc n ∷ []) sound;
  permitted = All-cons (λ a. r k a ≡ false) (arc n) [] free (All-nil (λ a. r k a ≡ false));
}

-- the source of a demand is left by these two arcs alone
abbrev pub LeavesBy : Parts → ℕ → ℕ → ℕ → Type 0
LeavesBy p k one other = (n : ℕ) → IsTrue (is_arc p (arc n)) → (tail_of p (arc n)).0 ≡ (demand_at p k).source.0 → (n ≡ one) ⊎ (n ≡ other)

-- where the one is forbidden a path begins with the other
pub begins_with : (p : Parts) (r : Forbidden) (k one other : ℕ) → LeavesBy p k one other → r k (arc one) ≡ true → (a : ArcId) (rest : List ArcId) → IsPermittedPath p r k (a ∷ rest) → a ≡ arc other
begins_with p r k one other leaves forbidden a rest h =
    elim (leaves a.0 (h.simple.are_arcs 0 (omega arith)) (h.simple.goes_on 0 (omega arith))) [
      | inl is ↦ absurd (let bad : true ≡ false = sym forbidden ∙ sym (ap (r k) (same_arc a one is)) ∙ h.permitted 0 a (omega arith) in cc)
      | inr is ↦ same_arc a other is
    ]

-- the two arcs in the other order
pub leaves_swapped : (p : Parts) (k one other : ℕ) → LeavesBy p k one other → LeavesBy p k other one
leaves_swapped p k one other leaves n is tail =
    elim (leaves n is tail) [
      | inl first ↦ inr first
      | inr second ↦ inl second
    ]

-- a path ends where its first arc leads to the target
pub ends_there : (p : Parts) (k : Demand) (a : ArcId) (rest : List ArcId) → (head_of p a).0 ≡ k.target.0 → IsSimplePath p k (a ∷ rest) → rest ≡ []
ends_there p k a [] reached h = refl
ends_there p k a (b ∷ rest) reached h = absurd (h.no_node_twice 1 (length (a ∷ b ∷ rest)) (omega arith) (omega arith) (reached ∙ sym h.ends_at_target))

-- where each path begins with one arc, which leads to the target, there is no other path
pub only_arc : (p : Parts) (r : Forbidden) (k n : ℕ) → (demand_at p k).source.0 ≢ (demand_at p k).target.0 → (head_of p (arc n)).0 ≡ (demand_at p k).target.0
    → ((a : ArcId) (rest : List ArcId) → IsPermittedPath p r k (a ∷ rest) → a ≡ arc n) → (arcs : List ArcId) → IsPermittedPath p r k arcs → arcs ≡ arc n ∷ []
only_arc p r k n apart reached begins [] h = absurd (apart h.simple.ends_at_target)
only_arc p r k n apart reached begins (a ∷ rest) h =
    let first : a ≡ arc n = begins a rest h in
    let last : rest ≡ [] = ends_there p (demand_at p k) a rest (ap (λ (x : ArcId). (head_of p x).0) first ∙ reached) h.simple in
    cc

-- an arc that leaves the first node is a side of a split there
side : (p : Parts) (n : ℕ) → IsTrue (is_arc p (arc n)) → (tail_of p (arc n)).0 ≡ 0 → IsSide p none_forbidden first_demand (node 0) (arc n ∷ [])
side p n is tail = record {
  some = omega arith;
  are_arcs = All-cons (λ a. IsTrue (is_arc p a)) (arc n) [] is (All-nil (λ a. IsTrue (is_arc p a)));
  leave = All-cons (λ a. (tail_of p a).0 ≡ 0) (arc n) [] tail (All-nil (λ a. (tail_of p a).0 ≡ 0));
  permitted = λ i d below. refl;
}

-- two arcs that leave the first node split the paths of the first demand
pub two_arcs-split : (p : Parts) (one other : ℕ) → 0 < length p.demands → 0 < p.nodes → IsTrue (is_arc p (arc one)) → IsTrue (is_arc p (arc other)) → (tail_of p (arc one)).0 ≡ 0 → (tail_of p (arc other)).0 ≡ 0
    → is_among (arc other ∷ []) (arc one) ≡ false → IsSplit p none_forbidden first_demand (node 0) (arc one ∷ []) (arc other ∷ [])
two_arcs-split p one other demand node_is left right from from_other differ = record {
  demand = demand;
  node = node_is;
  left_side = side p one left from;
  right_side = side p other right from_other;
  disjoint = All-cons (λ a. is_among (arc other ∷ []) a ≡ false) (arc one) [] differ (All-nil (λ a. is_among (arc other ∷ []) a ≡ false));
}

-- what holds of each number below 1
pub below_one : (P : ℕ → Type 0) → P 0 → (n : ℕ) → n < 1 → P n
below_one P first zero below = first
below_one P first (suc n) below = absurd (omega arith)

-- what holds of each number below 2
pub below_two : (P : ℕ → Type 0) → P 0 → P 1 → (n : ℕ) → n < 2 → P n
below_two P first second zero below = first
below_two P first second (suc n) below = below_one (λ i. P (suc i)) second n (omega arith)

-- what holds of each number below 3
pub below_three : (P : ℕ → Type 0) → P 0 → P 1 → P 2 → (n : ℕ) → n < 3 → P n
below_three P first second third zero below = first
below_three P first second third (suc n) below = below_two (λ i. P (suc i)) second third n (omega arith)

-- what holds of each number below 4
pub below_four : (P : ℕ → Type 0) → P 0 → P 1 → P 2 → P 3 → (n : ℕ) → n < 4 → P n
below_four P first second third fourth zero below = first
below_four P first second third fourth (suc n) below = below_three (λ i. P (suc i)) second third fourth n (omega arith)
