use Rattle.std.proofs.Common.{slice_index, arith}
use Rattle.demand_routing.proofs.Rises.{too_much-above, too_much-raised, cost-sides, rise-raised}
use Rattle.demand_routing.proofs.weights.Rises.rise_above.Goals as goal

pub returns-in_err-raised-clause-value : goal.returns-in_err-raised-clause-value
returns-in_err-raised-clause-value c =
    let known = c.args.known in
    let total = rw c.instance-inst.ensures.inst at c.total_load.ensures.value in
    rw c.from_residual.ensures (too_much-above c.args.self.now.table.now (slice_index c.args.self.now.loads.now) known.place known.sides c.requires.sides c.args.load (omega (arith, total, c.in_err-raised.ensures.none)))

pub returns-in_err-after-clause-value : goal.returns-in_err-after-clause-value
returns-in_err-after-clause-value c =
    let known = c.args.known in
    let raised = c.in_ok-raised in
    rw c.from_residual-in_err-after.ensures (too_much-raised c.args.self.now.table.now (slice_index c.args.self.now.loads.now) known.place known.sides c.requires.sides c.args.load
    raised.raised raised.ensures.here raised.ensures.other (rw c.requires.link at c.in_err-after.ensures.none))

pub returns-clause-value : goal.returns-clause-value
returns-clause-value c =
    let p = c.args.self.now.table.now in
    let f = slice_index c.args.self.now.loads.now in
    let known = c.args.known in
    let raised = c.in_ok-raised in
    let total = rw c.instance-inst.ensures.inst at c.total_load.ensures.value in
    rw c.saturating_sub.ensures (rise-raised p f known.place known.sides c.requires.sides c.args.load raised.raised raised.ensures.here raised.ensures.other known.cost c.in_ok-after.after
    (omega (arith, c.requires.within, raised.ensures.other, raised.ensures.within, total)) (cost-sides p f known.place known.sides c.requires.sides known.cost c.requires.cost) (rw c.requires.link at c.in_ok-after.ensures.some))
