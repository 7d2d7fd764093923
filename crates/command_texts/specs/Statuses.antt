-- How a run ends.
use Rattle.std.specs.Prelude.{ℕ}
use Rattle.proof_tree.specs.declared.plan.PlanStatus.{PlanStatus}
use Rattle.proof_tree.specs.declared.plan.PlanStatus.TheVariants as claims
use Rattle.plan_report.specs.declared.run_fault.RunFault.{RunFault}
use Rattle.plan_report.specs.declared.run_fault.RunFault.TheVariants as faults
use Rattle.command_texts.specs.declared.status.Status.{Status}
use Rattle.command_texts.specs.declared.status.Status.TheVariants as statuses

-- the number that a program exits with where a run ends so
abbrev pub exit_number : Status → ℕ
exit_number statuses.Good = 0
exit_number statuses.Usage = 2
exit_number statuses.BadText = 3
exit_number statuses.Unsupported = 4
exit_number statuses.OverLimit = 5
exit_number statuses.ReadFault = 6
exit_number statuses.WriteFault = 7
exit_number statuses.OutOfMemory = 8
exit_number statuses.Infeasible = 10
exit_number statuses.Undecided = 11
exit_number statuses.Rejected = 12

-- how a run ends that refuses its words or texts so
abbrev pub refusal_status : RunFault → Status
refusal_status faults.Usage = statuses.Usage
refusal_status (faults.Text file fault) = statuses.BadText
refusal_status (faults.PlanText rule at) = statuses.BadText
refusal_status (faults.LoopLink link) = statuses.BadText
refusal_status (faults.LoopDemand demand) = statuses.BadText
refusal_status (faults.Unsupported key value) = statuses.Unsupported
refusal_status (faults.TooLong file) = statuses.OverLimit
refusal_status (faults.OverLimit limit at) = statuses.OverLimit
refusal_status (faults.Read file) = statuses.ReadFault

-- how a run ends that writes a plan of this status
abbrev pub status_of_plan : PlanStatus → Status
status_of_plan claims.Optimal = statuses.Good
status_of_plan claims.Infeasible = statuses.Infeasible
status_of_plan claims.Undecided = statuses.Undecided
