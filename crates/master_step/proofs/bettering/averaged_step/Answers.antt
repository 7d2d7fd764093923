use Rattle.std.proofs.Common.{sym, subst, rules}
use Rattle.std.proofs.lemmas.Int.{to_z-of_z}
use mir.Syntax.{w128}
use mir.Val.{SFits}
use Rattle.column_pool.specs.Columns.{columns_at}
use Rattle.master_step.specs.Outcomes.{IsStepOf}
use Rattle.master_step.specs.Ascents.{IsBestStepOf}
use Rattle.master_step.proofs.Rising.{raised-best, same-best}
use Rattle.master_step.proofs.bettering.averaged_step.Goals as goal

pub returns-in_ok-risen-in-Raised-clause-step : goal.returns-in_ok-risen-in-Raised-clause-step
returns-in_ok-risen-in-Raised-clause-step c =
    let node = c.args.node.now in
    let raise = subst (IsStepOf node.table.now.problem node.table.now.cuts node.brief.now.ranges (columns_at node.brief.now.columns) node.brief.now.prices) c.in-Raised.is c.in_ok-demand.ensures in
    let old_fits : SFits w128 c.in-Raised.old = search rules in
    let new_fits : SFits w128 c.in-Raised.new = search rules in
    subst (IsBestStepOf node.table.now.problem node.table.now.cuts node.brief.now.ranges (columns_at node.brief.now.columns) node.brief.now.prices) (sym c.better_raise.ensures.step)
    (rw (to_z-of_z w128 c.in-Raised.old old_fits, to_z-of_z w128 c.in-Raised.new new_fits)
    (raised-best node.table.now.problem node.table.now.cuts node.brief.now.ranges (columns_at node.brief.now.columns) node.brief.now.prices node.brief_fits.are_numbers
    c.in_ok-risen-in-Raised.risen.ascent c.in_ok-risen-in-Raised.ensures.numbers c.in_ok-risen-in-Raised.ensures.value c.in-Raised.old c.in-Raised.prices c.in-Raised.new raise))

pub returns-in_ok-risen-in-Same-clause-step : goal.returns-in_ok-risen-in-Same-clause-step
returns-in_ok-risen-in-Same-clause-step c =
    let node = c.args.node.now in
    let stalled = subst (IsStepOf node.table.now.problem node.table.now.cuts node.brief.now.ranges (columns_at node.brief.now.columns) node.brief.now.prices) c.in-Same.is c.in_ok-demand.ensures in
    let fits : SFits w128 c.in-Same.value = search rules in
    subst (IsBestStepOf node.table.now.problem node.table.now.cuts node.brief.now.ranges (columns_at node.brief.now.columns) node.brief.now.prices) (sym c.raise_or_same.ensures.step)
    (rw (to_z-of_z w128 c.in-Same.value fits)
    (same-best node.table.now.problem node.table.now.cuts node.brief.now.ranges (columns_at node.brief.now.columns) node.brief.now.prices node.brief_fits.are_numbers
    c.in_ok-risen-in-Same.risen.ascent c.in_ok-risen-in-Same.ensures.numbers c.in_ok-risen-in-Same.ensures.value c.in-Same.value stalled))
