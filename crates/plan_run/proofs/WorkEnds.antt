-- How a command ends that does its work.
use Rattle.std.proofs.Common.{◌≡◌, ◌⊎◌, ℕ, List, Option, Some, None, inl, inr, arith}
use Rattle.std.specs.Prelude.{IsSomeAnd}
use Rattle.proof_tree.specs.declared.plan.Plan.{Plan as AnyPlan}
use Rattle.proof_tree.specs.declared.plan.PlanStatus.{PlanStatus}
use Rattle.proof_tree.specs.declared.plan.PlanStatus.TheVariants as claims
use Rattle.plan_base.specs.declared.parts.Parts.{Parts}
use Rattle.snd_network.specs.declared.file.NetworkFile.{NetworkFile}
use Rattle.command_words.specs.declared.command.Command.{Command}
use Rattle.command_words.specs.declared.command.Command.TheVariants.{OfNetwork, OfPlan, Upgrade, OfSample}
use Rattle.command_words.specs.declared.command.NetworkWork.TheVariants.{Plan, Check}
use Rattle.command_words.specs.declared.command.PlanWork.TheVariants.{Verify, Report}
use Rattle.command_words.specs.declared.command.SampleWork.TheVariants.{Sample, Trial}
use Rattle.command_words.specs.Words.{Word, command_in}
use Rattle.command_texts.specs.declared.status.Status.{Status}
use Rattle.command_texts.specs.declared.status.Status.TheVariants.{Good, ReadFault, WriteFault, OutOfMemory, Infeasible, Undecided, Rejected}
use Rattle.command_texts.specs.Statuses.{status_of_plan}
use Rattle.command_texts.specs.Texts.{Texts}
use Rattle.command_texts.specs.Answers.{IsReport, reported, unreported}
use Rattle.run_ends.specs.Found.{EndsSo}
use Rattle.run_ends.proofs.Ending.{verdict-ends}
use Rattle.plan_run.specs.Runs.{IsWorkDone, IsDoneSo}
use Rattle.plan_run.specs.Supports.{EndsWith, IsEndOfWork}

planned-ends : (claimed : PlanStatus) (status : Status) → status ≡ status_of_plan claimed → (status ≡ Good) ⊎ (status ≡ Infeasible) ⊎ (status ≡ Undecided)
planned-ends claims.Optimal status is = inl is
planned-ends claims.Infeasible status is = inr (inl is)
planned-ends claims.Undecided status is = inr (inr is)

report-ends : (net : NetworkFile) (parts : Parts) (plan : Option AnyPlan) (status : Status) (bytes : List ℕ) → IsSomeAnd plan (λ made. IsReport net parts made status bytes) → (status ≡ Good) ⊎ (status ≡ Rejected)
report-ends net parts None status bytes is = absurd is
report-ends net parts (Some plan) status bytes (reported good is) = inl good
report-ends net parts (Some plan) status bytes (unreported bad is) = inr bad

-- a command that does its work ends with one of its own statuses
pub done-ends : (command : Command Word) (texts : Texts) (status : Status) (bytes : List ℕ) → IsWorkDone command texts status bytes → EndsWith command status
done-ends (OfNetwork (Plan workers budget) network model) texts status bytes done = planned-ends done.holds.plan.status status done.holds.is_status
done-ends (OfNetwork Check network model) texts status bytes done = done.holds.good
done-ends (OfPlan Verify network model plan) texts status bytes done = verdict-ends done.parts done.plan status bytes done.holds
done-ends (OfPlan Report network model plan) texts status bytes done = report-ends done.net done.parts done.plan status bytes done.holds
done-ends (Upgrade plan) texts status bytes done = done.written.good
done-ends (OfSample Sample key) texts status bytes done = done.1.good
done-ends (OfSample Trial key) texts status bytes done = planned-ends done.1.plan.status status done.1.is_status

some-ends : (command : Option (Command Word)) (texts : Texts) (status : Status) (bytes : List ℕ) → IsSomeAnd command (λ command. IsWorkDone command texts status bytes) → IsSomeAnd command (λ command. EndsWith command status)
some-ends None texts status bytes done = done
some-ends (Some command) texts status bytes done = done-ends command texts status bytes done

-- ---- work that is done ends with its own statuses alone

not-outside : (command : Command Word) → (EndsWith command ReadFault → ⊥) × (EndsWith command WriteFault → ⊥) × (EndsWith command OutOfMemory → ⊥)
not-outside (OfNetwork (Plan workers budget) network model) = (grind arith, grind arith, grind arith)
not-outside (OfNetwork Check network model) = (grind arith, grind arith, grind arith)
not-outside (OfPlan work network model plan) = (grind arith, grind arith, grind arith)
not-outside (Upgrade plan) = (grind arith, grind arith, grind arith)
not-outside (OfSample Sample key) = (grind arith, grind arith, grind arith)
not-outside (OfSample Trial key) = (grind arith, grind arith, grind arith)

some-outside : (command : Option (Command Word)) (status : Status) → ((command : Command Word) → EndsWith command status → ⊥) → IsSomeAnd command (λ command. EndsWith command status) → ⊥
some-outside None status not is = is
some-outside (Some command) status not is = not command is

-- a run that does the work of its words ends with a status of their command
pub work_ends : (words : List Word) → EndsSo (IsEndOfWork words) (IsDoneSo words)
work_ends words = record {
  ends = λ texts status bytes done. some-ends (command_in words) texts status bytes done;
  no_read = some-outside (command_in words) ReadFault (λ command. (not-outside command).0);
  no_write = some-outside (command_in words) WriteFault (λ command. (not-outside command).1);
  no_memory = some-outside (command_in words) OutOfMemory (λ command. (not-outside command).2);
}
