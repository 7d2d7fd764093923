use Rattle.std.proofs.Common.{rules}
use Rattle.std.specs.Prelude.{IfErr}
use Rattle.command_texts.specs.Stops.{IsProblemStop}
use Rattle.command_texts.proofs.StopLaws.{planned_end}
use Rattle.command_texts.proofs.problem.spelt_planned.Goals as goal

pub returns-in_err-problem-clause-stop : goal.returns-in_err-problem-clause-stop
returns-in_err-problem-clause-stop c =
    let stops : IfErr c.from_residual-in_err-problem.result (IsProblemStop c.in_ok-network.network c.in_ok-model.model) = search rules in
    planned_end c.args.network.now c.args.model.now c.args.plan.now c.in_ok-network.network c.in_ok-model.model c.in_ok-plan.plan c.from_residual-in_err-problem.result c.in_ok-network.ensures.value c.in_ok-model.ensures.value c.in_ok-plan.ensures.value stops
