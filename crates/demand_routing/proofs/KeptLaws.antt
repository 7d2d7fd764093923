-- Paths that are found without a limit, or with one, are what a demand with a limit asks for.
use Rattle.std.proofs.Common.{◌≡◌, ℕ, ◌+◌, ◌*◌, ◌<◌, ◌≤◌, List, [], ◌∷◌, ◌++◌, length, take, slice_index_or, Option, Some, None, arith, sym, subst, ap, ◌∙◌}
use Rattle.std.specs.List.{All}
use Rattle.std.specs.Option.{unwrap_or}
use Rattle.std.proofs.lemmas.List.{take_more, take_all}
use Rattle.plan_base.specs.declared.ids.ArcId.{ArcId}
use Rattle.plan_base.specs.declared.parts.Demand.{Demand}
use Rattle.plan_base.specs.declared.parts.Parts.{Parts}
use Rattle.plan_base.specs.Designs.{KeepsLimit}
use Rattle.plan_base.specs.Paths.{IsSimplePath}
use Rattle.least_path.specs.declared.limits.TheConstants.{MAX_WEIGHT}
use Rattle.least_path.specs.Paths.{Weights, AreWeights, IsLeastPath, HasNoneBelow}
use Rattle.limited_path.specs.Within.{IsLeastWithin, HasNoneWithin}
use Rattle.demand_routing.specs.Kept.{IsLeastKept, HasNoneKept, HasNoneKeptBelow}

-- one weight more is listed
pub weights_more : (ws listed new : Weights) (n : ℕ) (w : Option ℕ) → n < length ws → listed ≡ take n ws → w ≡ slice_index_or ws n None → new ≡ listed ++ w ∷ [] → new ≡ take (n + 1) ws
weights_more ws listed new n w below before is more = more ∙ ap (λ (xs : Weights). xs ++ w ∷ []) before ∙ ap (λ (x : Option ℕ). take n ws ++ x ∷ []) is ∙ sym (take_more ws n None below)

-- all weights are listed
pub weights_all : (ws listed : Weights) (n : ℕ) → length ws ≤ n → listed ≡ take n ws → listed ≡ ws
weights_all ws listed n whole is = is ∙ take_all n ws whole

-- they fit the instance
pub weights_fit : (p : Parts) (ws listed : Weights) → length ws ≡ 2 * length p.links → listed ≡ ws → All (λ w. unwrap_or w 0 ≤ MAX_WEIGHT) listed → AreWeights p listed
weights_fit p ws listed count is small = record { count = ap (λ (xs : Weights). length xs) is ∙ count; small = small }

kept_where : (p : Parts) (ws : Weights) (k : Demand) (arcs : List ArcId) (weight : ℕ) → KeepsLimit k.hops (length arcs) → IsLeastPath p ws k.source k.target arcs weight → IsLeastKept p ws k arcs weight
kept_where p ws k arcs weight keeps h = record {
  kept = record { path = h.path; keeps = keeps };
  weight_is = h.weight_is;
  least = λ other kept. h.least other kept.path;
}

keeps : (k : Demand) (limit : ℕ) (arcs : List ArcId) → k.hops ≡ Some limit → length arcs ≤ limit → KeepsLimit k.hops (length arcs)
keeps k limit arcs is short = subst (λ (hops : Option ℕ). KeepsLimit hops (length arcs)) (sym is) short

is_short : (k : Demand) (limit : ℕ) (arcs : List ArcId) → k.hops ≡ Some limit → KeepsLimit k.hops (length arcs) → length arcs ≤ limit
is_short k limit arcs is keeps = subst (λ (hops : Option ℕ). KeepsLimit hops (length arcs)) is keeps

-- a least path, without a limit
pub unlimited_kept : (p : Parts) (ws : Weights) (k : Demand) (arcs : List ArcId) (weight : ℕ) → k.hops ≡ None → IsLeastPath p ws k.source k.target arcs weight → IsLeastKept p ws k arcs weight
unlimited_kept p ws k arcs weight is h = kept_where p ws k arcs weight (subst (λ (hops : Option ℕ). KeepsLimit hops (length arcs)) (sym is) tt) h

-- a least path that is short enough
pub short_kept : (p : Parts) (ws : Weights) (k : Demand) (limit : ℕ) (arcs : List ArcId) (weight : ℕ) → k.hops ≡ Some limit → length arcs ≤ limit → IsLeastPath p ws k.source k.target arcs weight → IsLeastKept p ws k arcs weight
short_kept p ws k limit arcs weight is short h = kept_where p ws k arcs weight (keeps k limit arcs is short) h

-- no path below the bound
pub none_below_kept : (p : Parts) (ws : Weights) (k : Demand) (bound : Option ℕ) → HasNoneBelow p ws k.source k.target bound → HasNoneKeptBelow p ws k bound
none_below_kept p ws k None none = λ arcs kept. none arcs kept.path
none_below_kept p ws k (Some bound) none = λ arcs kept. none arcs kept.path

-- no path that keeps the limit
pub none_kept : (p : Parts) (ws : Weights) (k : Demand) (bound : Option ℕ) → HasNoneKept p ws k → HasNoneKeptBelow p ws k bound
none_kept p ws k None none = none
none_kept p ws k (Some bound) none = λ arcs kept. absurd (none arcs kept)

-- a least one that is not below the bound
pub least_not_below : (p : Parts) (ws : Weights) (k : Demand) (arcs : List ArcId) (weight bound : ℕ) → IsLeastKept p ws k arcs weight → bound ≤ weight → HasNoneKeptBelow p ws k (Some bound)
least_not_below p ws k arcs weight bound h beyond = λ other kept. omega (arith, beyond, h.least other kept)

-- a least path within the limit
pub within_kept : (p : Parts) (ws : Weights) (k : Demand) (limit : ℕ) (arcs : List ArcId) (weight : ℕ) → k.hops ≡ Some limit → IsLeastWithin p ws k.source k.target limit arcs weight → IsLeastKept p ws k arcs weight
within_kept p ws k limit arcs weight is h = record {
  kept = record { path = h.within.path; keeps = keeps k limit arcs is h.within.short };
  weight_is = h.weight_is;
  least = λ other kept. h.least other (record { path = kept.path; short = is_short k limit other is kept.keeps });
}

-- no path within it
pub none_within_kept : (p : Parts) (ws : Weights) (k : Demand) (limit : ℕ) → k.hops ≡ Some limit → HasNoneWithin p ws k.source k.target limit → HasNoneKept p ws k
none_within_kept p ws k limit is none = λ arcs kept. none arcs (record { path = kept.path; short = is_short k limit arcs is kept.keeps })

-- it is a simple path of the demand
pub kept_simple : (p : Parts) (ws : Weights) (k : Demand) (arcs : List ArcId) (weight : ℕ) → IsLeastKept p ws k arcs weight → IsSimplePath p k arcs
kept_simple p ws k arcs weight h =
    let simple = h.kept.path.simple in
    record { are_arcs = simple.are_arcs; goes_on = simple.goes_on; no_node_twice = simple.no_node_twice; ends_at_target = simple.ends_at_target }
