use Rattle.command_texts.proofs.StopLaws.{problem_end}
use Rattle.command_texts.proofs.problem.spelt_problem.Goals as goal

pub returns-clause-stop : goal.returns-clause-stop
returns-clause-stop c = problem_end c.args.network.now c.args.model.now c.in_ok-network.network c.in_ok-model.model c.problem_of.result c.in_ok-network.ensures.value c.in_ok-model.ensures.value c.problem_of.ensures.stop
