-- The least bound of open leaves, as leaf after leaf is met; and with the stated cost.
use Rattle.std.proofs.Common.{◌≡◌, ℕ, ◌⊎◌, inl, inr, List, [], ◌∷◌, ◌++◌, length, get_or, Option, Some, None, refl, sym, ap, subst, ◌∙◌, arith, append-nil, length-append}
use Rattle.std.specs.Prelude.{IfSome, IfNone, IsSomeAnd, Any, ℤ, pos, ◌≤ℤ◌}
use Rattle.std.specs.Option.{option_map}
use Rattle.std.proofs.lemmas.Int.{ints}
use Rattle.std.proofs.lemmas.Bool.{cases_lt}
use Rattle.std.proofs.lemmas.List.{get_or_append_left}
use Rattle.std.proofs.Math.Seq.{get_or-append_seam}
use Rattle.std.proofs.lemmas.List.Quantifiers.{Any-push}
use Rattle.plan_base.specs.declared.parts.Parts.{Parts}
use Rattle.proof_tree.specs.declared.cuts.Cut.{Cut as LoadCut}
use Rattle.proof_tree.specs.declared.tree.Evidence.{Evidence}
use Rattle.proof_tree.specs.declared.tree.Evidence.TheVariants.{Bound, Routed, Overfull, Cut, Far, Crowd, Open}
use Rattle.proof_tree.specs.declared.plan.Plan.{Plan}
use Rattle.proof_tree.specs.Regions.{Region}
use Rattle.proof_tree.specs.declared.tree.TreeNode.{TreeNode}
use Rattle.proof_tree.specs.Trees.{LeafAt, leaf_here, leaves_of}
use Rattle.proof_tree.specs.Plans.{IsOpenBound, IsCandidate, stated_cost}
use Rattle.proof_tree.specs.RatedEvidence.{rates_in}
use Rattle.proof_tree.proofs.RatedUniqueness.{rated_bound-unique}
use Rattle.cert_verifier.proofs.WalkLaws.{some_same}
use Rattle.cert_verifier.specs.Bounds.{IsBoundIn, IsLeastBoundIn, IsLowerOf}
use Rattle.cert_verifier.specs.PlanRules.{IsLeastOfAll}

-- a leaf has at most one bound
pub open_bound-unique : (p : Parts) (cuts : List LoadCut) (g : Region) (evidence : Evidence) (a b : ℤ) → IsOpenBound p cuts g evidence a → IsOpenBound p cuts g evidence b → a ≡ b
open_bound-unique p cuts g (Open prices) a b x y = rated_bound-unique p cuts g prices (rates_in p prices) a b x y
open_bound-unique p cuts g (Bound prices) a b x y = absurd x
open_bound-unique p cuts g Routed a b x y = absurd x
open_bound-unique p cuts g (Overfull link) a b x y = absurd x
open_bound-unique p cuts g (Cut demand reached) a b x y = absurd x
open_bound-unique p cuts g (Far demand) a b x y = absurd x
open_bound-unique p cuts g (Crowd prices) a b x y = absurd x

-- some of the first is some of the whole
any-front : {X : Type 0} (P : X → Type 0) (xs ys : List X) → Any P xs → Any P (xs ++ ys)
any-front P xs ys (k, x, within, read, holds) = (k, x, omega (arith, length-append xs ys), get_or_append_left xs ys x k within ∙ read, holds)

-- some of the list with one more is some of the list or that one
any-parts : {X : Type 0} (P : X → Type 0) (xs : List X) (y : X) → Any P (xs ++ y ∷ []) → Any P xs ⊎ P y
any-parts P xs y (k, x, within, read, holds) = elim (cases_lt k (length xs)) [
  | inl here ↦ inl (k, x, here, sym (get_or_append_left xs (y ∷ []) x k here) ∙ read, holds)
  | inr past ↦
      let last : k ≡ length xs = omega (arith, length-append xs (y ∷ [])) in
      let is : y ≡ x = sym (get_or-append_seam xs y [] x) ∙ ap (λ i. get_or (xs ++ y ∷ []) i x) (sym last) ∙ read in
      inr (subst P (sym is) holds)
]

-- behind a record that is no leaf, and that is the one read, the least bound is what it was
pub least_kept : (p : Parts) (cuts : List LoadCut) (g : Region) (leaves : List LeafAt) (read node : TreeNode) (before after : Option ℤ) → leaf_here g read ≡ [] → read ≡ node → after ≡ before
    → IsLeastBoundIn p cuts leaves before → IsLeastBoundIn p cuts (leaves ++ leaf_here g node) after
least_kept p cuts g leaves read node before after none same kept least =
    subst (λ b. IsLeastBoundIn p cuts (leaves ++ leaf_here g node) b) (sym kept)
    (subst (λ (ls : List LeafAt). IsLeastBoundIn p cuts ls before) (sym (ap (λ ls. leaves ++ ls) (sym (ap (leaf_here g) same) ∙ none) ∙ append-nil leaves)) least)

-- the bounds of the leaves and of one more
abbrev FromBoth : Parts → List LoadCut → List LeafAt → Option ℤ → ℤ → Type 0
FromBoth p cuts leaves found b = IsBoundIn p cuts leaves b ⊎ (found ≡ Some b)

parts-bound : (p : Parts) (cuts : List LoadCut) (leaves : List LeafAt) (leaf : LeafAt) (found : Option ℤ)
    → IfSome found (IsOpenBound p cuts leaf.region leaf.evidence) → IfNone found ((b : ℤ) → IsOpenBound p cuts leaf.region leaf.evidence b → ⊥)
    → (b : ℤ) → IsBoundIn p cuts (leaves ++ leaf ∷ []) b → FromBoth p cuts leaves found b
parts-bound p cuts leaves leaf found some none b is = elim (any-parts (λ l. IsOpenBound p cuts l.region l.evidence b) leaves leaf is) [
  | inl here ↦ inl here
  | inr last ↦ inr (cases found some none last)
]
  where
    cases : (found : Option ℤ) → IfSome found (IsOpenBound p cuts leaf.region leaf.evidence) → IfNone found ((b : ℤ) → IsOpenBound p cuts leaf.region leaf.evidence b → ⊥) → IsOpenBound p cuts leaf.region leaf.evidence b → found ≡ Some b
    cases None s n is_bound = absurd (n b is_bound)
    cases (Some f) s n is_bound = ap (λ (z : ℤ). Some z) (open_bound-unique p cuts leaf.region leaf.evidence f b s is_bound)

bound-parts : (p : Parts) (cuts : List LoadCut) (leaves : List LeafAt) (leaf : LeafAt) (found : Option ℤ)
    → IfSome found (IsOpenBound p cuts leaf.region leaf.evidence) → (b : ℤ) → FromBoth p cuts leaves found b → IsBoundIn p cuts (leaves ++ leaf ∷ []) b
bound-parts p cuts leaves leaf found some b (inl here) = any-front (λ l. IsOpenBound p cuts l.region l.evidence b) leaves (leaf ∷ []) here
bound-parts p cuts leaves leaf found some b (inr is) = Any-push (λ l. IsOpenBound p cuts l.region l.evidence b) leaves leaf (let at : IfSome (Some b) (IsOpenBound p cuts leaf.region leaf.evidence) = subst (λ o. IfSome o (IsOpenBound p cuts leaf.region leaf.evidence)) is some in at)

-- what is least of the known leaves is one of their bounds, and no other is lower
known-bound : (p : Parts) (cuts : List LoadCut) (leaves : List LeafAt) (known : Option ℤ) (b : ℤ) → IsLeastBoundIn p cuts leaves known → known ≡ Some b → IsBoundIn p cuts leaves b
known-bound p cuts leaves None b least is = absurd (let bad : None ≡ Some b = is in cc)
known-bound p cuts leaves (Some k) b least is = subst (IsBoundIn p cuts leaves) (some_same k b is) least.0

-- a bound of the leaves is at least the known one
known-least : (p : Parts) (cuts : List LoadCut) (leaves : List LeafAt) (known : Option ℤ) (other : ℤ) → IsLeastBoundIn p cuts leaves known → IsBoundIn p cuts leaves other → (k : ℤ) × (known ≡ Some k) × (k ≤ℤ other)
known-least p cuts leaves None other least is = absurd (least other is)
known-least p cuts leaves (Some k) other least is = (k, refl, least.1 other is)

transitive : (a b c : ℤ) → a ≤ℤ b → b ≤ℤ c → a ≤ℤ c
transitive a b c x y = omega (arith, ints)

-- with one more leaf, whose bound is found or which has none, the lower of both is the least
pub least_more : (p : Parts) (cuts : List LoadCut) (leaves : List LeafAt) (leaf : LeafAt) (known found result : Option ℤ)
    → IfSome found (IsOpenBound p cuts leaf.region leaf.evidence) → IfNone found ((b : ℤ) → IsOpenBound p cuts leaf.region leaf.evidence b → ⊥)
    → IsLowerOf known found result → IsLeastBoundIn p cuts leaves known → IsLeastBoundIn p cuts (leaves ++ leaf ∷ []) result
least_more p cuts leaves leaf known found None some none lower least = λ b is. elim (parts-bound p cuts leaves leaf found some none b is) [
  | inl here ↦ (let k = known-least p cuts leaves known b least here in let bad : None ≡ Some k.0 = sym (lower.none refl).0 ∙ k.1 in cc)
  | inr last ↦ (let bad : None ≡ Some b = sym (lower.none refl).1 ∙ last in cc)
]
least_more p cuts leaves leaf known found (Some r) some none lower least = (attained, lowest)
  where
    attained : IsBoundIn p cuts (leaves ++ leaf ∷ []) r
    attained = bound-parts p cuts leaves leaf found some r (elim (lower.from r refl) as (λ _. FromBoth p cuts leaves found r) [ inl is ↦ inl (known-bound p cuts leaves known r least is) | inr is ↦ inr is ])

    lowest : (other : ℤ) → IsBoundIn p cuts (leaves ++ leaf ∷ []) other → r ≤ℤ other
    lowest other is = elim (parts-bound p cuts leaves leaf found some none other is) [
      | inl here ↦ (let k = known-least p cuts leaves known other least here in transitive r k.0 other (lower.least r k.0 refl (inl k.1)) k.2)
      | inr last ↦ lower.least r other refl (inr last)
    ]

-- the stated cost as a whole number
abbrev pub cost_bound : Plan → Option ℤ
cost_bound plan = option_map (λ cost. pos cost) (stated_cost plan)

candidate-cases : (p : Parts) (plan : Plan) (b : ℤ) → IsCandidate p plan b → (cost_bound plan ≡ Some b) ⊎ IsBoundIn p plan.cuts (leaves_of p plan.tree) b
candidate-cases p plan b (inl cost) = inl (cases (stated_cost plan) cost)
  where
    cases : (cost : Option ℕ) → IsSomeAnd cost (λ cost. pos cost ≡ b) → option_map (λ cost. pos cost) cost ≡ Some b
    cases None h = absurd h
    cases (Some c) h = ap (λ (z : ℤ). Some z) h
candidate-cases p plan b (inr bound) = inr bound

cost-candidate : (p : Parts) (plan : Plan) (b : ℤ) → cost_bound plan ≡ Some b → IsCandidate p plan b
cost-candidate p plan b h = inl (cases (stated_cost plan) h)
  where
    cases : (cost : Option ℕ) → option_map (λ cost. pos cost) cost ≡ Some b → IsSomeAnd cost (λ cost. pos cost ≡ b)
    cases None h = absurd (let bad : None ≡ Some b = h in cc)
    cases (Some c) h = some_same (pos c) b h

-- the lower of the stated cost and the least bound of open leaves is the least of all
pub least_of_both : (p : Parts) (plan : Plan) (lowest result : Option ℤ) → IsLeastBoundIn p plan.cuts (leaves_of p plan.tree) lowest → IsLowerOf (cost_bound plan) lowest result → IsLeastOfAll p plan result
least_of_both p plan lowest None least lower = λ b is. elim (candidate-cases p plan b is) [
  | inl cost ↦ (let bad : None ≡ Some b = sym (lower.none refl).0 ∙ cost in cc)
  | inr here ↦ (let k = known-least p plan.cuts (leaves_of p plan.tree) lowest b least here in let bad : None ≡ Some k.0 = sym (lower.none refl).1 ∙ k.1 in cc)
]
least_of_both p plan lowest (Some r) least lower = record { is_candidate = attained; least = smallest }
  where
    attained : IsCandidate p plan r
    attained = elim (lower.from r refl) [ inl is ↦ cost-candidate p plan r is | inr is ↦ inr (known-bound p plan.cuts (leaves_of p plan.tree) lowest r least is) ]

    smallest : (other : ℤ) → IsCandidate p plan other → r ≤ℤ other
    smallest other is = elim (candidate-cases p plan other is) [
      | inl cost ↦ lower.least r other refl (inl cost)
      | inr here ↦ (let k = known-least p plan.cuts (leaves_of p plan.tree) lowest other least here in transitive r k.0 other (lower.least r k.0 refl (inr k.1)) k.2)
    ]
