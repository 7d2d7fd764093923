use Rattle.std.specs.Arc.{arc_value}
use Rattle.plan_run.proofs.SearchLaws.{searched-for, opening-problem, opening-cuts, opening-budget}
use Rattle.plan_run.proofs.searching.search_alone.Goals as goal

pub returns-clause-searched : goal.returns-clause-searched
returns-clause-searched c =
    let p = arc_value c.args.inst in
    let opened = c.in_ok-pool.pool in
    searched-for p opened.problem c.args.cuts opened.cuts c.args.budget opened.budget c.finished_plan.result
    (opening-problem p c.args.cuts c.args.budget opened c.in_ok-pool.ensures.opening) (opening-cuts p c.args.cuts c.args.budget opened c.in_ok-pool.ensures.opening) (opening-budget p c.args.cuts c.args.budget opened c.in_ok-pool.ensures.opening)
    c.finished_plan.ensures.searched
