-- What is the same split is one record, and no leaf.
use Rattle.std.proofs.Common.{◌≡◌, ℕ, List, [], ◌∷◌, Bool, true, false, refl, ap, ap₂, ◌∙◌}
use Rattle.std.specs.Prelude.{◌&&◌, ◌==◌}
use Rattle.std.proofs.lemmas.Bool.{eqb-true}
use Rattle.plan_base.specs.declared.ids.ArcId.{ArcId}
use Rattle.plan_base.specs.declared.ids.DemandId.{DemandId}
use Rattle.plan_base.specs.declared.ids.NodeId.{NodeId}
use Rattle.proof_tree.specs.declared.tree.TreeNode.{TreeNode}
use Rattle.proof_tree.specs.declared.tree.TreeNode.TheVariants.{Split, Loads, Leaf}
use Rattle.plan_merge.specs.Merging.{same_arcs, same_split}

first : (a b : Bool) → (a && b) ≡ true → a ≡ true
first true b h = refl
first false b h = h

second : (a b : Bool) → (a && b) ≡ true → b ≡ true
second true b h = h
second false b h = absurd (let bad : false ≡ true = h in cc)

arc-same : (a b : ArcId) → (a.0 == b.0) ≡ true → a ≡ b
arc-same a b h = ap (λ (n : ℕ). record { 0 = n }) (eqb-true a.0 b.0 h)

pub same_arcs-same : (xs ys : List ArcId) → same_arcs xs ys ≡ true → xs ≡ ys
same_arcs-same [] [] h = refl
same_arcs-same [] (y ∷ ys) h = absurd (let bad : false ≡ true = h in cc)
same_arcs-same (x ∷ xs) [] h = absurd (let bad : false ≡ true = h in cc)
same_arcs-same (x ∷ xs) (y ∷ ys) h = ap₂ (λ (a : ArcId) (rest : List ArcId). a ∷ rest) (arc-same x y (first (x.0 == y.0) (same_arcs xs ys) h)) (same_arcs-same xs ys (second (x.0 == y.0) (same_arcs xs ys) h))

pub same_split-same : (a b : TreeNode) → same_split a b ≡ true → a ≡ b
same_split-same (Split id at left right) (Split k v one other) h =
    let one_side = second (id.0 == k.0) (at.0 == v.0 && (same_arcs left one && same_arcs right other)) h in
    let sides = second (at.0 == v.0) (same_arcs left one && same_arcs right other) one_side in
    let demand : id ≡ k = ap (λ (n : ℕ). record { 0 = n }) (eqb-true id.0 k.0 (first (id.0 == k.0) (at.0 == v.0 && (same_arcs left one && same_arcs right other)) h)) in
    let node : at ≡ v = ap (λ (n : ℕ). record { 0 = n }) (eqb-true at.0 v.0 (first (at.0 == v.0) (same_arcs left one && same_arcs right other) one_side)) in
    let lefts = same_arcs-same left one (first (same_arcs left one) (same_arcs right other) sides) in
    let rights = same_arcs-same right other (second (same_arcs left one) (same_arcs right other) sides) in
    ap₂ (λ (k' : DemandId) (v' : NodeId). Split k' v' left right) demand node ∙ ap₂ (λ (l r : List ArcId). Split k v l r) lefts rights
same_split-same (Loads place load) (Loads q c) h =
    ap₂ (λ (m n : ℕ). Loads m n) (eqb-true place q (first (place == q) (load == c) h)) (eqb-true load c (second (place == q) (load == c) h))
same_split-same (Split id at left right) (Loads q c) h = absurd (let bad : false ≡ true = h in cc)
same_split-same (Split id at left right) (Leaf e) h = absurd (let bad : false ≡ true = h in cc)
same_split-same (Loads place load) (Split k v one other) h = absurd (let bad : false ≡ true = h in cc)
same_split-same (Loads place load) (Leaf e) h = absurd (let bad : false ≡ true = h in cc)
same_split-same (Leaf e) b h = absurd (let bad : false ≡ true = h in cc)
