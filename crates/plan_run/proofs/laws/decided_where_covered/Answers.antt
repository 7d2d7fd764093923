use Rattle.instance_maker.specs.declared.trials.TheConstants.{TRIAL_BUDGET}
use Rattle.plan_run.specs.Samples.{parts_of_key}
use Rattle.plan_run.proofs.Covered.{decided-planned, decided-searched}
use Rattle.plan_run.proofs.laws.decided_where_covered.Goals as goal

pub returns-clause-planned : goal.returns-clause-planned
returns-clause-planned c = λ budget texts bytes done. decided-planned c.enough_budget.ensures done.parts budget bytes done.holds

pub returns-clause-tried : goal.returns-clause-tried
returns-clause-tried c = λ key bytes tried. decided-searched c.enough_budget.ensures (parts_of_key key) tried.cuts TRIAL_BUDGET tried.plan tried.searched tried.is_status
