-- What is done is not refused, and the plan that is written is accepted.
use Rattle.std.proofs.Common.{◌≡◌, ◌≤◌, ℕ, List, length, Some}
use Rattle.plan_base.specs.declared.parts.Parts.{Parts}
use Rattle.snd_network.specs.declared.file.NetworkFile.{NetworkFile}
use Rattle.proof_tree.specs.declared.plan.Plan.{Plan as AnyPlan}
use Rattle.proof_tree.specs.Spellings.{IsSpellable}
use Rattle.cert_format.specs.declared.limits.TheConstants.{MAX_PLAN_BYTES}
use Rattle.cert_format.specs.Grammar.{written_text, HasFields}
use Rattle.plan_report.specs.declared.run_fault.RunFault.{RunFault}
use Rattle.command_words.specs.declared.command.Command.{Command}
use Rattle.command_words.specs.declared.command.Command.TheVariants.{OfNetwork, OfPlan, Upgrade, OfSample}
use Rattle.command_words.specs.declared.command.NetworkWork.TheVariants.{Plan, Check}
use Rattle.command_words.specs.declared.command.PlanWork.TheVariants.{Verify, Report}
use Rattle.command_words.specs.Words.{Word}
use Rattle.command_texts.specs.declared.status.Status.{Status}
use Rattle.command_texts.specs.declared.status.Status.TheVariants.{Good}
use Rattle.command_texts.specs.Texts.{Text, Texts, two, three}
use Rattle.command_texts.specs.Refusals.{Reads, AreRefused, AreGood, a_problem, a_plan, no_texts}
use Rattle.command_texts.specs.Answers.{IsVerified}
use Rattle.command_texts.specs.OneAnswer.{Below}
use Rattle.command_texts.proofs.OneRefusal.{refused_or_read, verdict-of, good-if}
use Rattle.plan_run.specs.Plans.{IsPlanDone}
use Rattle.plan_run.specs.Runs.{IsWorkDone}

-- texts for which a command does its work spell what it works on
done-good : (command : Command Word) (texts : Texts) (status : Status) (bytes : List ℕ) → IsWorkDone command texts status bytes → AreGood texts
done-good (OfNetwork (Plan workers budget) network model) texts status bytes done = a_problem done.net done.parts done.plan done.problem
done-good (OfNetwork Check network model) texts status bytes done = a_problem done.net done.parts done.plan done.problem
done-good (OfPlan Verify network model plan) texts status bytes done = a_problem done.net done.parts done.plan done.problem
done-good (OfPlan Report network model plan) texts status bytes done = a_problem done.net done.parts done.plan done.problem
done-good (Upgrade plan) texts status bytes done = a_plan done.plan done.read
done-good (OfSample work key) texts status bytes done = no_texts done.0

-- texts that are refused are not also worked on
pub refused_or_done : Below → (command : Command Word) (texts : Texts) (fault : RunFault) (status : Status) (bytes : List ℕ) → AreRefused texts fault → IsWorkDone command texts status bytes → ⊥
refused_or_done below command texts fault status bytes refused done = refused_or_read below texts fault refused (done-good command texts status bytes done)

-- what network and model read as does not depend on a plan
reads-with : (network model text : Text) (net : NetworkFile) (parts : Parts) → Reads (two network model) net parts → Reads (three network model text) net parts
reads-with network model text net parts reads = record { options = reads.options; network_text = reads.network_text; model_text = reads.model_text; stands = reads.stands; lawful = reads.lawful }

-- the plan that is written is not refused when it is verified
pub spelt_where_planned : Below → (budget : ℕ) (network model text : Text) (status : Status) (fault : RunFault) → IsPlanDone budget (two network model) status text → AreRefused (three network model text) fault → ⊥
spelt_where_planned below budget network model text status fault done refused =
    refused_or_read below (three network model text) fault refused (a_problem done.net done.parts (Some done.holds.plan) record {
      reads = reads-with network model text done.net done.parts done.problem.reads;
      plan_text = done.holds.spelt;
      few_steps = done.problem.few_steps;
    })

-- the plan that is written is found good when it is verified
pub good_where_planned : Below → (budget : ℕ) (network model text : Text) (status other : Status) (bytes : List ℕ) → IsPlanDone budget (two network model) status text → IsVerified (three network model text) other bytes → other ≡ Good
good_where_planned below budget network model text status other bytes done verified =
    good-if done.parts done.holds.plan other bytes
    (verdict-of below (three network model text) done.net done.parts done.holds.plan other bytes (reads-with network model text done.net done.parts done.problem.reads) done.holds.spelt verified)
    done.holds.searched.valid

-- the plan that is written is no longer than a plan text may be
pub short_where_planned : ((plan : AnyPlan) → IsSpellable plan → HasFields plan → length (written_text plan) ≤ MAX_PLAN_BYTES)
    → (budget : ℕ) (network model text : Text) (status : Status) → IsPlanDone budget (two network model) status text → length text ≤ MAX_PLAN_BYTES
short_where_planned within budget network model text status done =
    rw done.holds.text (within done.holds.plan done.holds.spelt.spellable done.holds.spelt.fields)
