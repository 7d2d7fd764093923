use Rattle.std.proofs.Common.{◌+◌, arith}
use Rattle.link_steps.proofs.Prices.{AreSmall-ranges}
use Rattle.link_steps.proofs.FirstBest.{IsFirstBest-value}
use Rattle.link_steps.proofs.FirstLeast.{AreFound-searches, AreMet-found}
use Rattle.link_steps.proofs.table.StepTable.ranged_value.Goals as goal

pub first_best-requires-clause-some : goal.first_best-requires-clause-some
first_best-requires-clause-some c =
    let found = AreFound-searches c.args.self.now c.args.link.0 c.args.ranges c.args.steps.now c.first_reaching-from.result c.first_reaching-last.result c.requires.steps c.requires.ranges
    (rw c.max.ensures at c.first_reaching-from.ensures.before) (rw c.max.ensures at c.first_reaching-from.ensures.here)
    (rw c.max-2.ensures at c.first_reaching-last.ensures.before) (rw c.max-2.ensures at c.first_reaching-last.ensures.here) in
    found.in_order

pub first_best-requires-clause-within : goal.first_best-requires-clause-within
first_best-requires-clause-within c =
    let found = AreFound-searches c.args.self.now c.args.link.0 c.args.ranges c.args.steps.now c.first_reaching-from.result c.first_reaching-last.result c.requires.steps c.requires.ranges
    (rw c.max.ensures at c.first_reaching-from.ensures.before) (rw c.max.ensures at c.first_reaching-from.ensures.here)
    (rw c.max-2.ensures at c.first_reaching-last.ensures.before) (rw c.max-2.ensures at c.first_reaching-last.ensures.here) in
    omega (arith, found.final.within)

pub first_best-requires-clause-small : goal.first_best-requires-clause-small
first_best-requires-clause-small c =
    rw (c.link.ensures.value, c.self.view_is)
    (AreSmall-ranges c.args.self.now c.args.link.0 c.args.ranges c.args.price c.args.back (rw c.self.view_is at c.lawful.ensures) c.requires.link c.requires.ranges c.requires.price c.requires.back)

pub returns : goal.returns
returns c =
    let p = c.args.self.now in
    let e = c.args.link.0 in
    let steps = c.args.steps.now in
    let from = c.first_reaching-from.result in
    let last = c.first_reaching-last.result in
    let found = AreFound-searches p e c.args.ranges steps from last c.requires.steps c.requires.ranges
    (rw c.max.ensures at c.first_reaching-from.ensures.before) (rw c.max.ensures at c.first_reaching-from.ensures.here)
    (rw c.max-2.ensures at c.first_reaching-last.ensures.before) (rw c.max-2.ensures at c.first_reaching-last.ensures.here) in
    let met = AreMet-found p e c.args.ranges steps from last c.requires.steps c.requires.ranges found.first found.final in
    let best = IsFirstBest-value p e c.args.ranges c.args.price c.args.back steps from (last + 1) c.first_best.result c.requires.steps c.requires.ranges met
    (rw (c.link.ensures.value, c.self.view_is) at c.first_best.ensures) in
    record { value = best.value; loads = best.loads }
