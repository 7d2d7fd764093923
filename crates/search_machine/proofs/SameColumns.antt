-- What a master step finds depends on the columns of the demands alone.
use Rattle.std.proofs.Common.{◌≡◌, ℕ, ◌+◌, ◌*◌, ◌<◌, ◌^◌, List, length, slice_index, if◌then◌else◌, sym, ap, subst, ◌∙◌}
use Rattle.std.specs.Prelude.{ℤ, pos, ◌+ℤ◌}
use Rattle.plan_base.specs.declared.ids.ArcId.{ArcId}
use Rattle.plan_base.specs.declared.parts.Parts.{Parts}
use Rattle.link_steps.specs.declared.range.LoadRange.{LoadRange}
use Rattle.plan_base.specs.Arcs.{demand_at}
use Rattle.plan_base.specs.Places.{places}
use Rattle.plan_base.specs.Paths.{uses_place}
use Rattle.plan_base.proofs.SumsBelow.{sum_below-same}
use Rattle.plan_base.specs.Sums.{int_sum_below}
use Rattle.proof_tree.specs.declared.cuts.Cut.{Cut}
use Rattle.proof_tree.specs.RatedBounds.{cut_total}
use Rattle.proof_tree.specs.RatedEvidence.{rates_in}
use Rattle.cut_values.specs.Numbers.{least_price_at, most_price_at}
use Rattle.master_step.specs.Columns.{Choices, least_column, least_price}
use Rattle.master_step.specs.Restricted.{IsRestrictedValue}
use Rattle.master_step.specs.Trials.{column_load, apart, widest_gap, greatest_price, moved, IsTrial}
use Rattle.master_step.specs.Outcomes.{IsStalled}
use Rattle.master_step.proofs.Uniqueness.{max_below-same}

-- both name the same columns for each demand
abbrev pub AreSame : Parts → Choices → Choices → Type 0
AreSame p one other = (k : ℕ) → k < length p.demands → one k ≡ other k

-- two choices that name the same columns do so the other way round
pub same-back : (p : Parts) (one other : Choices) → AreSame p one other → AreSame p other one
same-back p one other same = λ k below. sym (same k below)

-- a restricted value over columns is one over each choice that names the same columns
pub value-same : (p : Parts) (cuts : List Cut) (ranges : List LoadRange) (one other : Choices) (prices : List ℕ) (value : ℤ) → AreSame p one other → IsRestrictedValue p cuts ranges one prices value → IsRestrictedValue p cuts ranges other prices value
value-same p cuts ranges one other prices value same h = record {
  has_columns = λ k below. subst (λ (paths : List (List ArcId)). 0 < length paths) (same k below) (h.has_columns k below);
  values = h.values;
  are_values = h.are_values;
  is_sum = h.is_sum ∙ ap (λ (n : ℕ). pos (n + cut_total p cuts (rates_in p prices)) +ℤ int_sum_below h.values (length p.links))
      (sum_below-same (λ k. (demand_at p k).load * least_price p prices (one k)) (λ k. (demand_at p k).load * least_price p prices (other k)) (length p.demands)
      (λ k below. ap (λ (paths : List (List ArcId)). (demand_at p k).load * least_price p prices paths) (same k below)));
}

load-same : (p : Parts) (one other : Choices) (prices : List ℕ) (q : ℕ) → AreSame p one other → column_load p one prices q ≡ column_load p other prices q
load-same p one other prices q same =
    sum_below-same (λ k. if uses_place p q (least_column p prices (one k)) then (demand_at p k).load else 0) (λ k. if uses_place p q (least_column p prices (other k)) then (demand_at p k).load else 0) (length p.demands)
    (λ k below. ap (λ (paths : List (List ArcId)). if uses_place p q (least_column p prices paths) then (demand_at p k).load else 0) (same k below))

trial-same : (p : Parts) (cuts : List Cut) (ranges : List LoadRange) (one other : Choices) (prices : List ℕ) (j : ℕ) (trial : List ℕ) → AreSame p one other → IsTrial p cuts ranges one prices j trial → IsTrial p cuts ranges other prices j trial
trial-same p cuts ranges one other prices j trial same h =
    let loads : (q : ℕ) → column_load p one prices q ≡ column_load p other prices q = λ q. load-same p one other prices q same in
    let widest : widest_gap p (column_load p one prices) h.loads ≡ widest_gap p (column_load p other prices) h.loads =
    max_below-same (λ q. apart (column_load p one prices q) (h.loads q)) (λ q. apart (column_load p other prices q) (h.loads q)) (places p)
    (λ q below. ap (λ (x : ℕ). apart x (h.loads q)) (loads q)) in
    record {
      loads = h.loads;
      are_loads = h.are_loads;
      some_gap = subst (λ (x : ℕ). 0 < x) widest h.some_gap;
      count = h.count;
      each = λ q below.
          let least = least_price_at p cuts prices q in
          let most = most_price_at p cuts prices q in
          h.each q below
          ∙ ap (λ (w : ℕ). moved least most (greatest_price p prices) (w * 2 ^ j) (column_load p one prices q) (h.loads q) (slice_index prices q)) widest
          ∙ ap (λ (x : ℕ). moved least most (greatest_price p prices) (widest_gap p (column_load p other prices) h.loads * 2 ^ j) x (h.loads q) (slice_index prices q)) (loads q);
      rates = h.rates;
    }

-- where no trial gains over columns, none gains over a choice that names the same ones
pub stalled-same : (p : Parts) (cuts : List Cut) (ranges : List LoadRange) (one other : Choices) (prices : List ℕ) (old : ℤ) → AreSame p one other → IsStalled p cuts ranges one prices old → IsStalled p cuts ranges other prices old
stalled-same p cuts ranges one other prices old same h =
    let back = same-back p one other same in
    record {
      is_old = value-same p cuts ranges one other prices old same h.is_old;
      none_greater = λ j trial value below t v. h.none_greater j trial value below (trial-same p cuts ranges other one prices j trial back t) (value-same p cuts ranges other one trial value back v);
    }
