-- Prices of paths within limits, and whose paths keep them.
use Rattle.std.proofs.Common.{ℕ, ◌≡◌, ◌<◌, ◌≤◌, ◌⊎◌, inl, inr, List, Option, Some, None, IfSome, IsSomeAnd, length, sym, subst, arith}
use Rattle.plan_base.specs.declared.ids.ArcId.{ArcId}
use Rattle.plan_base.specs.declared.parts.Parts.{Parts}
use Rattle.plan_base.specs.Arcs.{demand_at}
use Rattle.plan_base.specs.Designs.{path_at, KeepsLimit, KeepsLimits}
use Rattle.arc_restrict.specs.Restrictions.{Forbidden}
use Rattle.arc_restrict.specs.Prices.{price_of}
use Rattle.completions.specs.Completions.{with_paths}
use Rattle.hop_pricing.specs.Within.{IsLeastWithin, HasNoneWithin}
use Rattle.leaf_tasks.specs.Limits.{AreFitted, HavePathsWithin}

-- a path of least price within a limit has its own price
pub at_its_price : (p : Parts) (r : Forbidden) (prices : List ℕ) (k hops : ℕ) (arcs : List ArcId) (price : ℕ) → IsLeastWithin p r prices k hops arcs price → IsLeastWithin p r prices k hops arcs (price_of p prices arcs)
at_its_price p r prices k hops arcs price h = subst (IsLeastWithin p r prices k hops arcs) (sym h.price_is) h

-- a fitted path keeps the limit, where some permitted path does
one_keeps : (p : Parts) (r : Forbidden) (prices : List ℕ) (k : ℕ) (hops : Option ℕ) (path fitted : List ArcId)
    → IsSomeAnd hops (λ limit. (limit < length path) × IsLeastWithin p r prices k limit fitted (price_of p prices fitted)) ⊎ ((fitted ≡ path) × IfSome hops (λ limit. limit < length path → HasNoneWithin p r k limit))
    → IfSome hops (λ limit. HasNoneWithin p r k limit → ⊥) → KeepsLimit hops (length fitted)
one_keeps p r prices k None path fitted h some = tt
one_keeps p r prices k (Some limit) path fitted (inl shorter) some = shorter.1.within.short
one_keeps p r prices k (Some limit) path fitted (inr same) some = elim (long_or_short limit (length path)) [
  | inl long ↦ absurd (some (same.1 long))
  | inr short ↦ subst (λ (arcs : List ArcId). length arcs ≤ limit) (sym same.0) short
]
  where
    long_or_short : (a b : ℕ) → (a < b) ⊎ (b ≤ a)
    long_or_short a b = grind arith

-- so do all of them
pub all_keep : (p : Parts) (r : Forbidden) (prices : List ℕ) (paths fitted : List (List ArcId)) → AreFitted p r prices paths fitted → HavePathsWithin p r → KeepsLimits p (with_paths fitted)
all_keep p r prices paths fitted each some k within =
    one_keeps p r prices k (demand_at p k).hops (path_at (with_paths paths) k) (path_at (with_paths fitted) k) (each k within) (some k within)
