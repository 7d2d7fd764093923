use Rattle.std.proofs.Common.{max, ◌≤◌, slice_index, arith}
use Rattle.plan_base.specs.Facts.{total_load}
use Rattle.demand_routing.proofs.Rises.{too_much-above, too_much-raised, cost-sides, rise-raised}
use Rattle.demand_routing.proofs.weights.Rises.rise_at.Goals as goal

pub returns-in_err-known-clause-none : goal.returns-in_err-known-clause-none
returns-in_err-known-clause-none c = rw c.from_residual.ensures (λ within. c.in_err-known.ensures.none c.args.self.now.load)

pub returns-in_err-more-clause-none : goal.returns-in_err-more-clause-none
returns-in_err-more-clause-none c =
    let known = c.in_ok-known.known in
    let total = rw c.instance-inst.ensures.inst at c.total_load.ensures.value in
    let above = too_much-above c.args.self.now.table.now (slice_index c.args.self.now.loads.now) known.place known.sides c.in_ok-known.ensures.known.sides c.args.self.now.load (omega (arith, total, c.in_err-more.ensures.none)) in
    rw c.from_residual-in_err-more.ensures (λ within. rw c.in_ok-known.ensures.place at above)

pub returns-in_err-after-clause-none : goal.returns-in_err-after-clause-none
returns-in_err-after-clause-none c =
    let known = c.in_ok-known.known in
    let is = c.in_ok-known.ensures.known in
    let more = c.in_ok-more in
    let cannot = too_much-raised c.args.self.now.table.now (slice_index c.args.self.now.loads.now) known.place known.sides is.sides c.args.self.now.load more.more more.ensures.here more.ensures.other (rw is.link at c.in_err-after.ensures.none) in
    rw c.from_residual-in_err-after.ensures (λ within. rw c.in_ok-known.ensures.place at cannot)

pub returns-clause-value : goal.returns-clause-value
returns-clause-value c =
    let p = c.args.self.now.table.now in
    let f = slice_index c.args.self.now.loads.now in
    let known = c.in_ok-known.known in
    let is = c.in_ok-known.ensures.known in
    let more = c.in_ok-more in
    let total = rw c.instance-inst.ensures.inst at c.total_load.ensures.value in
    let low : max more.more.here more.more.other ≤ total_load p = omega (arith, is.within, more.ensures.other, more.ensures.within, total) in
    let rise = rise-raised p f known.place known.sides is.sides c.args.self.now.load more.more more.ensures.here more.ensures.other known.cost c.in_ok-after.after low
    (cost-sides p f known.place known.sides is.sides known.cost is.cost) (rw is.link at c.in_ok-after.ensures.some) in
    rw c.saturating_sub.ensures (rw c.in_ok-known.ensures.place at rise)
