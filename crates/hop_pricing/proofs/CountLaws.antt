-- At the price 1 for each place a permitted path costs as many as it has arcs.
use Rattle.std.proofs.Common.{◌≡◌, ℕ, ◌<◌, ◌^◌, List, [], ◌∷◌, length, replicate, slice_index, refl, ◌∙◌, arith, sum_by}
use Rattle.std.proofs.lemmas.List.{get_or-replicate}
use Rattle.std.proofs.lemmas.List.Sums.{sum_by-cons}
use Rattle.plan_base.specs.declared.ids.ArcId.{ArcId}
use Rattle.plan_base.specs.declared.parts.Parts.{Parts}
use Rattle.plan_base.specs.Facts.{IsInstance}
use Rattle.plan_base.specs.Places.{places, place_of}
use Rattle.plan_base.specs.Arcs.{demand_at, no_demand}
use Rattle.plan_base.specs.Paths.{arc_at}
use Rattle.plan_base.proofs.PathLaws.{length-IsSimplePath}
use Rattle.plan_base.proofs.PathSums.{place-within}
use Rattle.arc_restrict.specs.Restrictions.{Forbidden, IsPermittedPath, IsFewest}
use Rattle.arc_restrict.specs.Prices.{price_of}
use Rattle.path_pricing.specs.Priced.{IsLeastPath}
use Rattle.path_pricing.proofs.WeightLaws.{sum_by-same}

-- a permitted path has fewer arcs than a number of 32 bits can count
pub few-arcs : (p : Parts) (k : ℕ) (r : Forbidden) (arcs : List ArcId) → IsInstance p → k < length p.demands → IsPermittedPath p r k arcs → length arcs < 2 ^ 32
few-arcs p k r arcs inst within path =
    let few = length-IsSimplePath p (demand_at p k) arcs inst (inst.demands k no_demand within).source path.simple in
    omega (arith, few, inst.nodes)

sum_by-one : (arcs : List ArcId) → sum_by (λ (a : ArcId). 1) arcs ≡ length arcs
sum_by-one [] = refl
sum_by-one (a ∷ arcs) =
    let more = sum_by-cons (λ (b : ArcId). 1) a arcs in
    let rest = sum_by-one arcs in
    omega (arith, more, rest)

price_of-ones : (p : Parts) (prices : List ℕ) (k : ℕ) (r : Forbidden) (arcs : List ArcId) → prices ≡ replicate (places p) 1 → IsPermittedPath p r k arcs → price_of p prices arcs ≡ length arcs
price_of-ones p prices k r arcs is path =
    sum_by-same (λ a. slice_index prices (place_of p a)) (λ (a : ArcId). 1) arcs
    (λ i within. rw is (get_or-replicate (places p) (place_of p (arc_at arcs i)) 1 0 (place-within p (arc_at arcs i) (path.simple.are_arcs i within))))
    ∙ sum_by-one arcs

-- a path of least price then has the fewest arcs
pub IsFewest-ones : (p : Parts) (prices : List ℕ) (k : ℕ) (r : Forbidden) (arcs : List ArcId) (price : ℕ) → prices ≡ replicate (places p) 1 → IsLeastPath p prices k r arcs price → IsFewest p r k (length arcs)
IsFewest-ones p prices k r arcs price is h = record {
  path = arcs;
  permitted = h.permitted;
  attained = refl;
  least = λ other permitted.
      let this = price_of-ones p prices k r arcs is h.permitted in
      let that = price_of-ones p prices k r other is permitted in
      let le = h.least.least other permitted in
      omega (arith, this, that, le, h.price_is);
}
