use Rattle.command_words.specs.declared.command.Command.TheVariants.{OfNetwork, OfPlan}
use Rattle.command_words.specs.declared.command.NetworkWork.TheVariants.{Plan}
use Rattle.command_words.specs.declared.command.PlanWork.TheVariants.{Verify, Report}
use Rattle.plan_run.proofs.Finding.{found}
use Rattle.plan_run.proofs.commands.do_command.Goals as goal

pub returns-in-Plan-clause-found : goal.returns-in-Plan-clause-found
returns-in-Plan-clause-found g c =
    rw (c.in-OfNetwork.is, c.in-Plan.is) (found (OfNetwork (Plan c.in-Plan.workers c.in-Plan.budget) c.in-OfNetwork.network.now c.in-OfNetwork.model.now) _ _ _ _ c.plan.result c.plan.ensures.done c.plan.ensures.stops)

pub returns-in-Verify-clause-found : goal.returns-in-Verify-clause-found
returns-in-Verify-clause-found g c =
    rw (c.in-OfPlan.is, c.in-Verify.is) (found (OfPlan Verify c.in-OfPlan.network.now c.in-OfPlan.model.now c.in-OfPlan.plan.now) _ _ _ _ c.verify_plan.result c.verify_plan.ensures.done c.verify_plan.ensures.stops)

pub returns-in-Report-clause-found : goal.returns-in-Report-clause-found
returns-in-Report-clause-found g c =
    rw (c.in-OfPlan.is, c.in-Report.is) (found (OfPlan Report c.in-OfPlan.network.now c.in-OfPlan.model.now c.in-OfPlan.plan.now) _ _ _ _ c.report.result c.report.ensures.done c.report.ensures.stops)
