use Rattle.std.proofs.Common.{slice_index}
use Rattle.demand_routing.proofs.Rises.{too_much-over, too_much-sides}
use Rattle.demand_routing.proofs.weights.Rises.known.Goals as goal

pub returns-in_err-sides-clause-none : goal.returns-in_err-sides-clause-none
returns-in_err-sides-clause-none c =
    rw c.from_residual.ensures (λ load. too_much-over c.args.self.now.table.now (slice_index c.args.self.now.loads.now) c.args.place load (rw c.instance-inst.ensures.inst at c.in_err-sides.ensures.none))

pub returns-in_err-cost-clause-none : goal.returns-in_err-cost-clause-none
returns-in_err-cost-clause-none c =
    let sides = rw c.instance-inst.ensures.inst at c.in_ok-sides.ensures.sides in
    let none = rw (c.link_of_place-link.ensures.value, c.instance-inst.ensures.inst) at c.in_err-cost.ensures.none in
    rw c.from_residual-in_err-cost.ensures (λ load. too_much-sides c.args.self.now.table.now (slice_index c.args.self.now.loads.now) c.args.place c.in_ok-sides.sides sides load none)

pub returns-clause-known : goal.returns-clause-known
returns-clause-known c = record {
  link = rw c.instance-inst.ensures.inst at c.link_of_place-link.ensures.value;
  exists = rw c.instance-inst.ensures.inst at c.link_of_place-link.ensures.within;
  sides = rw c.instance-inst.ensures.inst at c.in_ok-sides.ensures.sides;
  within = rw c.instance-inst.ensures.inst at c.in_ok-sides.ensures.within;
  cost = rw (c.link_of_place-link.ensures.value, c.instance-inst.ensures.inst) at c.in_ok-cost.ensures.some;
}
