-- Counts of arcs as prices: from a node that is reached an arc leads back to one that is one arc nearer.
use Rattle.std.proofs.Common.{◌≡◌, ℕ, suc, ◌+◌, ◌<◌, ◌≤◌, Bool, List, [], ◌∷◌, ◌++◌, length, reverse, slice_index, Option, Some, None, refl, sym, ap, subst, ◌∙◌, arith, length-append}
use Rattle.std.specs.Prelude.{⊤, MatchOption}
use Rattle.std.proofs.lemmas.List.{reverse-append}
use Rattle.plan_base.specs.declared.ids.ArcId.{ArcId}
use Rattle.plan_base.specs.declared.ids.NodeId.{NodeId}
use Rattle.plan_base.specs.declared.parts.Parts.{Parts}
use Rattle.plan_base.specs.Facts.{IsInstance}
use Rattle.plan_base.specs.Arcs.{tail_of, head_of, demand_at}
use Rattle.plan_base.specs.Places.{places, place_of}
use Rattle.plan_base.proofs.PathSums.{place-within}
use Rattle.arc_restrict.specs.Restrictions.{Forbidden, IsPermittedPath, HasNoPath, IsFewest}
use Rattle.arc_restrict.specs.Prices.{price_of, IsLeastPrice}
use Rattle.verifier_paths.specs.Labels.{may_take, label_at, IsAtMost, IsWay, AreLeast}
use Rattle.verifier_paths.specs.OnlyPaths.{AreOnes, AreFewestArcs, IsPathOf, IsStep}
use Rattle.verifier_paths.proofs.Ways.{Avoids, MeetOnce, has_last, way_on, price-cons, simple_of_way, way-all, way_of_simple}
use Rattle.verifier_paths.proofs.Offers.{known}
use Rattle.verifier_paths.proofs.Rounding.{TakesArcs, tail-within}
use Rattle.verifier_paths.proofs.LeastPrices.{takes_arcs, path-taken, label-below}

-- ---- prices 1 count arcs

ones-count : (p : Parts) (takes : ArcId → Bool) (prices : List ℕ) (from to : ℕ) (arcs : List ArcId) → AreOnes p prices → TakesArcs p takes → IsWay p takes from to arcs → price_of p prices arcs ≡ length arcs
ones-count p takes prices from to [] ones are way = refl
ones-count p takes prices from to (a ∷ arcs) ones are way =
    let rest = ones-count p takes prices (head_of p a).0 to arcs ones are way.2 in
    let inside : place_of p a < places p = place-within p a (are a way.0) in
    let one : slice_index prices (place_of p a) ≡ 1 = ones.each (place_of p a) 0 (omega (arith, inside, ones.count)) in
    omega (arith, price-cons p prices a arcs, rest, one)

-- at prices of one, a least price is a fewest count of arcs
pub fewest_of_least : (p : Parts) (takes : ArcId → Bool) (prices : List ℕ) (source : ℕ) (labels : List (Option ℕ)) → AreOnes p prices → TakesArcs p takes → AreLeast p takes (price_of p prices) source labels → AreFewestArcs p takes source labels
fewest_of_least p takes prices source labels ones are least = record {
  count = least.count;
  attained = λ v price within is.
      let w = least.attained v price within is in
      record { arcs = w.arcs; way = w.way; few = w.few; costs = sym (ones-count p takes prices source v w.arcs ones are w.way) ∙ w.costs };
  least = λ v arcs within way. subst (λ (n : ℕ). IsAtMost (label_at labels v) n) (ones-count p takes prices source v arcs ones are way) (least.least v arcs within way);
}

-- a permitted path has as many arcs as it costs
path-count : (p : Parts) (r : Forbidden) (prices : List ℕ) (k : ℕ) (arcs : List ArcId) → AreOnes p prices → IsPermittedPath p r k arcs → price_of p prices arcs ≡ length arcs
path-count p r prices k arcs ones h =
    let takes = may_take p r k None in
    ones-count p takes prices (demand_at p k).source.0 (demand_at p k).target.0 arcs ones (takes_arcs p r k None) (way_of_simple p takes (demand_at p k) arcs h.simple (path-taken p r k arcs h))

-- so a least price is the fewest arcs
pub fewest_at_ones : (p : Parts) (r : Forbidden) (prices : List ℕ) (k : ℕ) (found : Option ℕ) → AreOnes p prices → MatchOption found (HasNoPath p r k) (λ price. IsLeastPrice p r prices k price) → MatchOption found (HasNoPath p r k) (λ arcs. IsFewest p r k arcs)
fewest_at_ones p r prices k None ones none = none
fewest_at_ones p r prices k (Some price) ones is = record {
  path = is.path;
  permitted = is.permitted;
  attained = sym (path-count p r prices k is.path ones is.permitted) ∙ is.attained;
  least = λ other permitted. omega (arith, is.least other permitted, path-count p r prices k other ones permitted);
}

-- ---- one step back

-- there is a step back to a node of so many steps
pub record HasStep (p : Parts) (takes : ArcId → Bool) (labels : List (Option ℕ)) (here steps : ℕ) : Type 0 where
  pub arc : ArcId
  pub is : IsStep p takes labels here steps arc

step_of_way : (p : Parts) (takes : ArcId → Bool) (source here steps : ℕ) (labels : List (Option ℕ)) (arcs : List ArcId) → IsInstance p → TakesArcs p takes → here < p.nodes → AreFewestArcs p takes source labels
    → label_at labels here ≡ Some (suc steps) → IsWay p takes source here arcs → length arcs ≡ suc steps → HasStep p takes labels here steps
step_of_way p takes source here steps labels [] inst are within least is way size = absurd (omega (arith, size))
step_of_way p takes source here steps labels (b ∷ arcs) inst are within least is way size =
    let l = has_last p takes source here b arcs way in
    let longer : length (b ∷ arcs) ≡ length l.front + 1 = ap length l.is ∙ length-append l.front (l.last ∷ []) in
    let inside = tail-within p l.last inst (are l.last l.taken) in
    let tail = known _ _ (least.least (tail_of p l.last).0 l.front inside l.way) in
    let back = least.attained (tail_of p l.last).0 tail.price inside tail.is in
    let whole = subst (λ (w : ℕ). IsWay p takes source w (back.arcs ++ l.last ∷ [])) l.leads (way_on p takes source (tail_of p l.last).0 back.arcs l.last back.way l.taken refl) in
    let low = label-below _ (suc steps) _ is (least.least here (back.arcs ++ l.last ∷ []) within whole) in
    let joined : length (back.arcs ++ l.last ∷ []) ≡ length back.arcs + 1 = length-append back.arcs (l.last ∷ []) in
    let same : tail.price ≡ steps = omega (arith, low, joined, back.costs, tail.within, longer, size) in
    record { arc = l.last; is = record { taken = l.taken; leads = l.leads; nearer = tail.is ∙ ap (λ n. Some n) same } }

-- from a node that is reached in some arcs, an arc leads back to one that is one arc nearer
pub has_step : (p : Parts) (takes : ArcId → Bool) (source here steps : ℕ) (labels : List (Option ℕ)) → IsInstance p → TakesArcs p takes → here < p.nodes → AreFewestArcs p takes source labels
    → label_at labels here ≡ Some (suc steps) → HasStep p takes labels here steps
has_step p takes source here steps labels inst are within least is =
    let w = least.attained here (suc steps) within is in
    step_of_way p takes source here steps labels w.arcs inst are within least is w.way w.costs

-- ---- the search for a step

-- no arc of a number below this one is a step back
abbrev pub HasNoStep : Parts → (ArcId → Bool) → List (Option ℕ) → ℕ → ℕ → ℕ → Type 0
HasNoStep p takes labels here steps number = (a : ArcId) → a.0 < number → IsStep p takes labels here steps a → ⊥

-- ---- the way back

-- along the arcs from a node of so many steps, each node has one step more
abbrev pub IsRising : Parts → List (Option ℕ) → ℕ → List ArcId → Type 0
IsRising p labels steps [] = ⊤
IsRising p labels steps (a ∷ arcs) = (label_at labels (head_of p a).0 ≡ Some (suc steps)) × IsRising p labels (suc steps) arcs

-- the arcs so far, read back, are a way from here to the target
pub record IsBack (p : Parts) (takes : ArcId → Bool) (labels : List (Option ℕ)) (target left here : ℕ) (arcs : List ArcId) : Type 0 where
  pub inside : here < p.nodes
  pub steps : label_at labels here ≡ Some left
  pub way : IsWay p takes here target (reverse arcs)
  pub rising : IsRising p labels left (reverse arcs)

-- one step back more
pub back-more : (p : Parts) (takes : ArcId → Bool) (labels : List (Option ℕ)) (target left here : ℕ) (arcs : List ArcId) (a : ArcId) → IsInstance p → TakesArcs p takes
    → IsStep p takes labels here left a → IsBack p takes labels target (suc left) here arcs → IsBack p takes labels target left (tail_of p a).0 (arcs ++ a ∷ [])
back-more p takes labels target left here arcs a inst are step h =
    let longer : a ∷ reverse arcs ≡ reverse (arcs ++ a ∷ []) = sym (reverse-append arcs (a ∷ [])) in
    record {
      inside = tail-within p a inst (are a step.taken);
      steps = step.nearer;
      way = subst (IsWay p takes (tail_of p a).0 target) longer (step.taken, refl, subst (λ (w : ℕ). IsWay p takes w target (reverse arcs)) (sym step.leads) h.way);
      rising = subst (IsRising p labels left) longer (ap (label_at labels) step.leads ∙ h.steps, h.rising);
    }

rising-avoids : (p : Parts) (labels : List (Option ℕ)) (v lower steps : ℕ) (arcs : List ArcId) → label_at labels v ≡ Some lower → lower ≤ steps → IsRising p labels steps arcs → Avoids p v arcs
rising-avoids p labels v lower steps [] is low h = tt
rising-avoids p labels v lower steps (a ∷ arcs) is low h = (
  (λ same.
      let both : Some (suc steps) ≡ Some lower = sym h.0 ∙ ap (label_at labels) same ∙ is in
      let equal : suc steps ≡ lower = cc in
      omega (arith, equal, low)),
  rising-avoids p labels v lower (suc steps) arcs is (omega (arith, low)) h.1,
)

rising-once : (p : Parts) (labels : List (Option ℕ)) (from steps : ℕ) (arcs : List ArcId) → label_at labels from ≡ Some steps → IsRising p labels steps arcs → MeetOnce p from arcs
rising-once p labels from steps [] is h = tt
rising-once p labels from steps (a ∷ arcs) is h = (rising-avoids p labels from steps steps (a ∷ arcs) is (omega arith) h, rising-once p labels (head_of p a).0 (suc steps) arcs h.0 h.1)

from_source : (p : Parts) (takes : ArcId → Bool) (source here : ℕ) (arcs : List ArcId) → IsWay p takes source here arcs → length arcs ≡ 0 → source ≡ here
from_source p takes source here [] way none = way
from_source p takes source here (a ∷ arcs) way none = absurd (omega (arith, none))

-- with no steps left, the arcs read back are a path
pub back-end : (p : Parts) (takes : ArcId → Bool) (labels : List (Option ℕ)) (k : ℕ) (target : NodeId) (here : ℕ) (arcs : List ArcId) → TakesArcs p takes → AreFewestArcs p takes (demand_at p k).source.0 labels
    → target ≡ (demand_at p k).target → IsBack p takes labels target.0 0 here arcs → IsPathOf p takes k (reverse arcs)
back-end p takes labels k target here arcs are least is h =
    let s = (demand_at p k).source.0 in
    let w = least.attained here 0 h.inside h.steps in
    let start : here ≡ s = sym (from_source p takes s here w.arcs w.way w.costs) in
    let from_start : IsWay p takes s target.0 (reverse arcs) = subst (λ (v : ℕ). IsWay p takes v target.0 (reverse arcs)) start h.way in
    let way : IsWay p takes s (demand_at p k).target.0 (reverse arcs) = subst (λ (n : NodeId). IsWay p takes s n.0 (reverse arcs)) is from_start in
    let once = subst (λ (v : ℕ). MeetOnce p v (reverse arcs)) start (rising-once p labels here 0 (reverse arcs) h.steps h.rising) in
    record {
      simple = simple_of_way p takes (demand_at p k) (reverse arcs) are way once;
      taken = way-all p takes s (demand_at p k).target.0 (reverse arcs) way;
    }

-- where the target has no label there is no path
pub no_path : (p : Parts) (takes : ArcId → Bool) (k : ℕ) (labels : List (Option ℕ)) → (demand_at p k).target.0 < p.nodes → AreFewestArcs p takes (demand_at p k).source.0 labels
    → label_at labels (demand_at p k).target.0 ≡ None → (arcs : List ArcId) → IsPathOf p takes k arcs → ⊥
no_path p takes k labels within least is arcs path =
    subst (λ (x : Option ℕ). IsAtMost x (length arcs)) is
    (least.least (demand_at p k).target.0 arcs within (way_of_simple p takes (demand_at p k) arcs path.simple path.taken))
