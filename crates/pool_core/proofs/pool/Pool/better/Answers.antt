use Rattle.std.proofs.Common.{◌≡◌, true, rules}
use Rattle.plan_base.specs.Designs.{cost_of, IsGoodDesign}
use Rattle.pool_core.specs.contracts.pool.Pool.{the_view}
use Rattle.search_machine.specs.Bettering.{is_cheaper}
use Rattle.pool_core.proofs.BetterPool.{takes_better, IsPool-holding}
use Rattle.pool_core.proofs.pool.Pool.better.Goals as goal

pub invariant_of-self : goal.invariant_of-self
invariant_of-self c = record {
  kept = (
      let s = the_view c.self.inside in
      let good : IsGoodDesign s.problem c.args.design = search rules in
      let cost : cost_of s.problem c.args.design ≡ c.in_ok-cost.cost = search rules in
      let cheaper : is_cheaper s.incumbent c.in_ok-cost.cost ≡ true = search rules in
      record {
        pool = IsPool-holding s c.self.inside.places.items c.in_ok-cost.cost c.args.design c.self.invariant.kept.pool
            (takes_better s c.args.design c.in_ok-cost.cost good cost cheaper);
        table_is = c.self.invariant.kept.table_is;
        cuts_are = c.self.invariant.kept.cuts_are;
        has_grounds = c.self.invariant.kept.has_grounds;
      }
      );
  room_is = c.self.invariant.room_is;
}
