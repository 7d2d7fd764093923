use Rattle.plan_run.proofs.SearchLaws.{searched}
use Rattle.plan_run.proofs.searching.finished_plan.Goals as goal

pub returns-clause-searched : goal.returns-clause-searched
returns-clause-searched c = searched c.claim.ensures c.args.pool.problem c.args.pool.cuts c.args.pool.budget c.finish.new.self c.into_plan.result
    (record { reachable = c.instance-inst.ensures.reachable; sound = c.instance-inst.ensures.sound; problem = c.finish.ensures.problem; cuts_are = c.finish.ensures.cuts; budget_is = c.finish.ensures.budget })
    c.into_plan.ensures.plan c.into_plan.ensures.valid c.into_plan.ensures.bound c.into_plan.ensures.splits
