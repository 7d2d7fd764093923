use Rattle.std.proofs.Common.{◌∙◌}
use Rattle.std.specs.Arc.{arc_value}
use Rattle.plan_run.proofs.SearchLaws.{searched-for, opening-problem, opening-cuts, opening-budget}
use Rattle.plan_run.proofs.searching.search.Goals as goal

pub returns-clause-searched : goal.returns-clause-searched
returns-clause-searched g c =
    let p = arc_value c.args.inst in
    let opened = c.in_ok-opened.opened in
    let worked = c.in_ok-pool.pool in
    searched-for p worked.problem c.args.cuts worked.cuts c.args.budget worked.budget c.finished_plan.result
    (c.in_ok-pool.ensures.search.problem ∙ opening-problem p c.args.cuts c.args.budget opened c.in_ok-opened.ensures.opening)
    (c.in_ok-pool.ensures.search.cuts_are ∙ opening-cuts p c.args.cuts c.args.budget opened c.in_ok-opened.ensures.opening)
    (c.in_ok-pool.ensures.search.budget_is ∙ opening-budget p c.args.cuts c.args.budget opened c.in_ok-opened.ensures.opening)
    c.finished_plan.ensures.searched
