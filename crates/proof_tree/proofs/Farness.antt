-- A demand with a limit is far exactly where the fewest arcs of its permitted paths are more than the limit.
use Rattle.std.proofs.Common.{◌≡◌, ℕ, ◌<◌, ◌≤◌, inl, inr, List, length, Option, Some, None, refl, sym, subst, arith}
use Rattle.std.specs.Prelude.{⊤, IsSomeAnd, MatchOption}
use Rattle.std.proofs.lemmas.Bool.{cases_lt}
use Rattle.plan_base.specs.declared.ids.ArcId.{ArcId}
use Rattle.plan_base.specs.declared.parts.Parts.{Parts}
use Rattle.plan_base.specs.declared.path.Design.{Design}
use Rattle.plan_base.specs.Arcs.{demand_at}
use Rattle.plan_base.specs.Designs.{path_at, KeepsLimit, KeepsLimits}
use Rattle.arc_restrict.specs.Restrictions.{Forbidden, IsPermittedPath, HasNoPath, IsFewest}
use Rattle.proof_tree.specs.Evidence.{AreOnlyPaths, IsFar}

-- the fewest arcs of a permitted path, or none where there is no such path
abbrev pub AreFewest : Parts → Forbidden → ℕ → Option ℕ → Type 0
AreFewest p r k fewest = MatchOption fewest (HasNoPath p r k) (λ arcs. IsFewest p r k arcs)

-- there is no path, or the fewest arcs are more than the limit
abbrev pub IsPast : Option ℕ → ℕ → Type 0
IsPast fewest limit = MatchOption fewest ⊤ (λ arcs. limit < arcs)

-- each permitted path has more arcs
abbrev AreLonger : Parts → Forbidden → ℕ → ℕ → Type 0
AreLonger p r k limit = (arcs : List ArcId) → IsPermittedPath p r k arcs → limit < length arcs

past-longer : (p : Parts) (r : Forbidden) (k limit : ℕ) (fewest : Option ℕ) → AreFewest p r k fewest → IsPast fewest limit → AreLonger p r k limit
past-longer p r k limit None none past arcs permitted = absurd (none arcs permitted)
past-longer p r k limit (Some n) is past arcs permitted = omega (arith, is.least arcs permitted, past)

longer-past : (p : Parts) (r : Forbidden) (k limit : ℕ) (fewest : Option ℕ) → AreFewest p r k fewest → AreLonger p r k limit → IsPast fewest limit
longer-past p r k limit None none all = tt
longer-past p r k limit (Some n) is all = omega (arith, all is.path is.permitted, is.attained)

-- a demand with a limit is far where it has no path, or the fewest arcs of its paths are more than the limit
pub past-far : (p : Parts) (r : Forbidden) (k limit : ℕ) (fewest : Option ℕ) → (demand_at p k).hops ≡ Some limit → AreFewest p r k fewest → IsPast fewest limit → IsFar p r k
past-far p r k limit fewest hops is past = subst (λ (h : Option ℕ). IsSomeAnd h (AreLonger p r k)) (sym hops) (past-longer p r k limit fewest is past)

-- where a demand with a limit is far it has no path, or the fewest arcs of its paths are more than the limit
pub far-past : (p : Parts) (r : Forbidden) (k limit : ℕ) (fewest : Option ℕ) → (demand_at p k).hops ≡ Some limit → AreFewest p r k fewest → IsFar p r k → IsPast fewest limit
far-past p r k limit fewest hops is far = longer-past p r k limit fewest is (subst (λ (h : Option ℕ). IsSomeAnd h (AreLonger p r k)) hops far)

-- a demand without a limit is not far
pub unlimited-near : (p : Parts) (r : Forbidden) (k : ℕ) → (demand_at p k).hops ≡ None → IsFar p r k → ⊥
unlimited-near p r k hops far = subst (λ (h : Option ℕ). IsSomeAnd h (AreLonger p r k)) hops far

-- where no demand is far, only paths keep their limits
pub near-keeps : (p : Parts) (r : Forbidden) (d : Design) → AreOnlyPaths p r d → ((k : ℕ) → k < length p.demands → IsFar p r k → ⊥) → KeepsLimits p d
near-keeps p r d only near k within = by_limit (demand_at p k).hops refl
  where
    keeps : (limit : ℕ) → (demand_at p k).hops ≡ Some limit → length (path_at d k) ≤ limit
    keeps limit is = elim (cases_lt limit (length (path_at d k))) [
      | inl longer ↦ absurd (near k within (subst (λ (h : Option ℕ). IsSomeAnd h (AreLonger p r k)) (sym is) (λ arcs permitted. subst (λ (path : List ArcId). limit < length path) (sym ((only k within).only arcs permitted)) longer)))
      | inr short ↦ short
    ]

    by_limit : (hops : Option ℕ) → (demand_at p k).hops ≡ hops → KeepsLimit (demand_at p k).hops (length (path_at d k))
    by_limit None is = subst (λ (h : Option ℕ). KeepsLimit h (length (path_at d k))) (sym is) tt
    by_limit (Some limit) is = subst (λ (h : Option ℕ). KeepsLimit h (length (path_at d k))) (sym is) (keeps limit is)
