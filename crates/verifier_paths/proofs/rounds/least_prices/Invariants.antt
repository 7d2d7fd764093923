use Rattle.std.proofs.Common.{◌≡◌, ◌-◌, ◌≤◌, length}
use Rattle.plan_base.specs.Arcs.{demand_at}
use Rattle.arc_restrict.specs.Prices.{price_of}
use Rattle.verifier_paths.specs.Labels.{open_arcs, AreLeastWithin, HasOffered}
use Rattle.verifier_paths.proofs.rounds.least_prices.Given as goal

-- so many rounds less one have been done, both lists are the same, and what the earlier prices offer is known
abbrev pub invariant-loop-round : goal.invariant-loop-round
invariant-loop-round l = record {
  same : l.new.items ≡ l.old.items;
  some : 1 ≤ l._round;
  least : AreLeastWithin l.ways.inst.now (open_arcs l.ways) (price_of l.ways.inst.now l.prices) (demand_at l.ways.inst.now l.ways.demand.0).source.0 (l._round - 1) l.old.items;
  count : length l.earlier.items ≡ l.ways.inst.now.nodes;
  offered : HasOffered l.ways.inst.now (open_arcs l.ways) l.prices l.earlier.items l.old.items;
}
