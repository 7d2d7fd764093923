use Rattle.std.proofs.Common.{◌≡◌, ◌≤◌, ◌*◌, take}
use Rattle.plan_base.specs.declared.limits.TheConstants.{MAX_PRICED_LOAD}
use Rattle.arc_restrict.specs.Prices.{price_of}
use Rattle.path_pricing.proofs.query.Query.price_of.Given as goal

abbrev pub invariant-loop-arc : goal.invariant-loop-arc
invariant-loop-arc l = record {
  is : l.price ≡ price_of l.self.inst.now l.self.prices.now (take l.arc-index l.arcs);
  small : l.price ≤ l.arc-index * MAX_PRICED_LOAD;
}
