-- Prices of demands from the labels of their source, source by source.
use Rattle.std.proofs.Common.{◌≡◌, ◌≢◌, ℕ, ◌+◌, ◌<◌, inl, inr, Bool, List, length, Option, Some, None, MatchOption, refl, sym, subst, ◌∙◌, arith}
use Rattle.std.proofs.Math.ListN.{set, length-set}
use Rattle.std.proofs.Math.Path.{fun_ext}
use Rattle.std.proofs.lemmas.Bool.{cases_eq}
use Rattle.std.proofs.lemmas.List.{get_or-set_same, get_or-set_other}
use Rattle.plan_base.specs.declared.ids.ArcId.{ArcId}
use Rattle.plan_base.specs.declared.parts.Parts.{Parts}
use Rattle.plan_base.specs.Facts.{IsInstance}
use Rattle.plan_base.specs.Arcs.{demand_at}
use Rattle.arc_restrict.specs.Restrictions.{Forbidden, none_forbidden, IsPermittedPath, HasNoPath}
use Rattle.arc_restrict.specs.Prices.{price_of, AreWithinLimit, IsLeastPrice}
use Rattle.verifier_paths.specs.Kept.{IsUnrestricted}
use Rattle.verifier_paths.specs.Labels.{label_at, may_take, AreLeast}
use Rattle.verifier_paths.specs.Sources.{IsPriceOf, AreUnrestricted, IsFrom, HasPriced}
use Rattle.verifier_paths.proofs.Offers.{before_or_at}
use Rattle.verifier_paths.proofs.LeastPrices.{least-price, label-within}

-- ---- the price of a demand that is forbidden nothing

permitted_unrestricted : (p : Parts) (r : Forbidden) (k : ℕ) (arcs : List ArcId) → IsUnrestricted r k → IsPermittedPath p none_forbidden k arcs → IsPermittedPath p r k arcs
permitted_unrestricted p r k arcs unrestricted h = record {
  simple = h.simple;
  permitted = λ i d within. unrestricted _;
}

permitted_anyway : (p : Parts) (r : Forbidden) (k : ℕ) (arcs : List ArcId) → IsPermittedPath p r k arcs → IsPermittedPath p none_forbidden k arcs
permitted_anyway p r k arcs h = record { simple = h.simple; permitted = λ i d within. refl }

least-unrestricted : (p : Parts) (r : Forbidden) (prices : List ℕ) (k : ℕ) (label : Option ℕ) → IsUnrestricted r k → MatchOption label (HasNoPath p none_forbidden k) (λ price. IsLeastPrice p none_forbidden prices k price)
    → MatchOption label (HasNoPath p r k) (λ price. IsLeastPrice p r prices k price)
least-unrestricted p r prices k None unrestricted h = λ arcs path. h arcs (permitted_anyway p r k arcs path)
least-unrestricted p r prices k (Some price) unrestricted h = record {
  path = h.path;
  permitted = permitted_unrestricted p r k h.path unrestricted h.permitted;
  attained = h.attained;
  least = λ other path. h.least other (permitted_anyway p r k other path);
}

-- the label of the target is the least price where nothing is forbidden to the demand
pub price_unrestricted : (p : Parts) (r : Forbidden) (prices : List ℕ) (k : ℕ) (labels : List (Option ℕ)) → IsInstance p → AreWithinLimit p prices → (demand_at p k).source.0 < p.nodes → (demand_at p k).target.0 < p.nodes
    → AreUnrestricted p prices k labels → IsUnrestricted r k → IsPriceOf p r prices k (label_at labels (demand_at p k).target.0)
price_unrestricted p r prices k labels inst limit source target labelled unrestricted =
    let label = label_at labels (demand_at p k).target.0 in
    let is = least-unrestricted p r prices k label unrestricted (least-price p none_forbidden prices k labels label target labelled refl) in
    record { is_least = is; is_small = label-within p r prices k label inst source limit is }

-- the labels of one demand are those of each other of the same source
pub labels-same_source : (p : Parts) (prices : List ℕ) (j k : ℕ) (labels : List (Option ℕ)) → (demand_at p j).source.0 ≡ (demand_at p k).source.0 → AreUnrestricted p prices j labels → AreUnrestricted p prices k labels
labels-same_source p prices j k labels same h =
    let alike : may_take p none_forbidden j None ≡ may_take p none_forbidden k None = fun_ext (λ a. refl) in
    subst (λ (s : ℕ). AreLeast p (may_take p none_forbidden k None) (price_of p prices) s labels) same
    (subst (λ (takes : ArcId → Bool). AreLeast p takes (price_of p prices) (demand_at p j).source.0 labels) alike h)

-- ---- demand by demand

-- the first so many demands of this source have their prices, and what was found before is still there
pub record HasPricedBelow (p : Parts) (r : Forbidden) (prices : List ℕ) (source n : ℕ) (before after : List (Option ℕ)) : Type 0 where
  pub count : length after ≡ length before
  pub kept : (k : ℕ) → k < length p.demands → IsPriceOf p r prices k (label_at before k) → IsPriceOf p r prices k (label_at after k)
  pub found : (k : ℕ) → k < n → IsFrom p source k → IsPriceOf p r prices k (label_at after k)

-- another source's demand
pub priced-over : (p : Parts) (r : Forbidden) (prices : List ℕ) (source n : ℕ) (before after : List (Option ℕ)) → (IsFrom p source n → ⊥)
    → HasPricedBelow p r prices source n before after → HasPricedBelow p r prices source (n + 1) before after
priced-over p r prices source n before after other h = record {
  count = h.count;
  kept = h.kept;
  found = λ k below from. elim (before_or_at k n below) [
    | inl earlier ↦ h.found k earlier from
    | inr is ↦ absurd (other (subst (IsFrom p source) is from))
  ];
}

-- a demand of the source, whose price is written
pub priced-more : (p : Parts) (r : Forbidden) (prices : List ℕ) (source n : ℕ) (before after : List (Option ℕ)) (price : Option ℕ) → n < length after → IsPriceOf p r prices n price
    → HasPricedBelow p r prices source n before after → HasPricedBelow p r prices source (n + 1) before (set after n price)
priced-more p r prices source n before after price within is h = record {
  count = length-set after n price ∙ h.count;
  kept = λ k inside was. at k (λ other. h.kept k inside was);
  found = λ k below from. at k (λ other. elim (before_or_at k n below) [
    | inl earlier ↦ h.found k earlier from
    | inr same ↦ absurd (other same)
  ]);
}
  where
    at : (k : ℕ) → (k ≢ n → IsPriceOf p r prices k (label_at after k)) → IsPriceOf p r prices k (label_at (set after n price) k)
    at k elsewhere = elim (cases_eq k n) [
      | inl same ↦ subst (λ (m : ℕ). IsPriceOf p r prices m (label_at (set after n price) m)) (sym same) (subst (IsPriceOf p r prices n) (sym (get_or-set_same after n price None within)) is)
      | inr other ↦ subst (IsPriceOf p r prices k) (sym (get_or-set_other after n k price None other)) (elsewhere other)
    ]

-- when the last demand is gone through, all demands of this source have their prices
pub priced-all : (p : Parts) (r : Forbidden) (prices : List ℕ) (source n : ℕ) (before after : List (Option ℕ)) → n ≡ length p.demands → HasPricedBelow p r prices source n before after → HasPriced p r prices source before after
priced-all p r prices source n before after all h = record { count = h.count; kept = h.kept; found = λ k within from. h.found k (omega (arith, within, all)) from }

-- ---- source by source

-- the demands of the first so many nodes have their prices
pub record HasPricedTo (p : Parts) (r : Forbidden) (prices : List ℕ) (n : ℕ) (found : List (Option ℕ)) : Type 0 where
  pub count : length found ≡ length p.demands
  pub each : (k : ℕ) → k < length p.demands → (demand_at p k).source.0 < n → IsPriceOf p r prices k (label_at found k)
