-- Cuts with the same parts are the same, and the loads that cross a set are few.
use Rattle.std.proofs.Common.{◌≡◌, ℕ, zero, suc, ◌+◌, ◌≤◌, Bool, true, false, List, length, take, if◌then◌else◌, ap, ◌∙◌, arith, add-one}
use Rattle.std.specs.List.{sum_by}
use Rattle.std.proofs.lemmas.List.Sums.{sum_by_more, sum_by-take-le}
use Rattle.plan_base.specs.declared.parts.Demand.{Demand}
use Rattle.plan_base.specs.declared.parts.Parts.{Parts}
use Rattle.plan_base.specs.Sums.{sum_below}
use Rattle.plan_base.specs.Facts.{total_load}
use Rattle.plan_base.specs.Arcs.{demand_at, no_demand}
use Rattle.proof_tree.specs.declared.cuts.Cut.{Cut}
use Rattle.proof_tree.specs.Cuts.{demand_crosses}

-- cuts with the same nodes, the same period, the same first grains and the same way to count are the same
pub same_cuts : (a b : Cut) → a.nodes ≡ b.nodes → a.period ≡ b.period → a.first ≡ b.first → a.counts_installed ≡ b.counts_installed → a ≡ b
same_cuts a b nodes period first counts =
    ap (λ (x : List Bool). record { nodes = x; period = a.period; first = a.first; counts_installed = a.counts_installed }) nodes
    ∙ ap (λ (x : ℕ). record { nodes = b.nodes; period = x; first = a.first; counts_installed = a.counts_installed }) period
    ∙ ap (λ (x : ℕ). record { nodes = b.nodes; period = b.period; first = x; counts_installed = a.counts_installed }) first
    ∙ ap (λ (x : Bool). record { nodes = b.nodes; period = b.period; first = b.first; counts_installed = x }) counts

-- the load of a demand where it crosses the set
abbrev crossing_from : Parts → List Bool → ℕ → ℕ
crossing_from p nodes k = if demand_crosses p nodes k then (demand_at p k).load else 0

-- the first demands that cross the set have together at most the loads of the first demands
crossing-le-taken : (p : Parts) (nodes : List Bool) (n : ℕ) → n ≤ length p.demands → sum_below (crossing_from p nodes) n ≤ sum_by (λ k. k.load) (take n p.demands)
crossing-le-taken p nodes zero within = omega arith
crossing-le-taken p nodes (suc n) within =
    let more : sum_by (λ (k : Demand). k.load) (take (suc n) p.demands) ≡ sum_by (λ (k : Demand). k.load) (take n p.demands) + (demand_at p n).load =
    rw (← add-one) (sum_by_more (λ (k : Demand). k.load) p.demands n no_demand (omega arith)) in
    omega (arith, crossing-le-taken p nodes n (omega arith), some (demand_crosses p nodes n) (demand_at p n).load, more)
  where
    some : (b : Bool) (load : ℕ) → (if b then load else 0) ≤ load
    some true load = omega arith
    some false load = omega arith

-- and at most the total load
pub crossing-le-total : (p : Parts) (nodes : List Bool) (n : ℕ) → n ≤ length p.demands → sum_below (λ k. if demand_crosses p nodes k then (demand_at p k).load else 0) n ≤ total_load p
crossing-le-total p nodes n within =
    let taken = crossing-le-taken p nodes n within in
    let whole = sum_by-take-le (λ (k : Demand). k.load) p.demands n in
    omega arith
