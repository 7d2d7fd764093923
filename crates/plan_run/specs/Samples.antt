-- What is written of a sample: its network, and the line of a trial.
use Rattle.std.specs.Prelude.{ℕ, ◌≡◌, List}
use Rattle.plan_base.specs.declared.parts.Parts.{Parts}
use Rattle.snd_network.specs.declared.file.NetworkFile.{NetworkFile}
use Rattle.snd_network.specs.Spelling.{SpellsNetwork}
use Rattle.snd_network.specs.Writing.{network_text}
use Rattle.model_check.specs.Reading.{ReadsAs}
use Rattle.proof_tree.specs.declared.cuts.Cut.{Cut}
use Rattle.proof_tree.specs.declared.plan.Plan.{Plan}
use Rattle.plan_report.specs.Reports.{trial_line}
use Rattle.instance_maker.specs.declared.trials.TheConstants.{TRIAL_BUDGET}
use Rattle.instance_maker.specs.Samples.{sample_network}
use Rattle.instance_maker.specs.Trials.{trial_model, sample_parts}
use Rattle.command_words.specs.declared.command.SampleKey.{SampleKey}
use Rattle.command_words.specs.declared.command.SampleWork.{SampleWork}
use Rattle.command_words.specs.declared.command.SampleWork.TheVariants.{Sample, Trial}
use Rattle.command_texts.specs.declared.status.Status.{Status}
use Rattle.command_texts.specs.declared.status.Status.TheVariants.{Good}
use Rattle.command_texts.specs.Statuses.{status_of_plan}
use Rattle.plan_run.specs.Searches.{IsSearched}

-- the network of a sample
abbrev pub network_of : SampleKey → NetworkFile
network_of key = sample_network key.number key.nodes key.demands

-- the parts that it stands for under the model of a trial
abbrev pub parts_of_key : SampleKey → Parts
parts_of_key key = sample_parts key.number key.nodes key.demands

-- the text of the network of a sample, which spells that network
pub record IsSampled (key : SampleKey) (status : Status) (bytes : List ℕ) : Type 0 where
  pub good : status ≡ Good
  pub text : bytes ≡ network_text (network_of key)
  pub spelt : SpellsNetwork bytes (network_of key)

-- the line of a plan that a search gives for the network of a sample under the model of a trial and a list of cuts, with the status of that plan
pub record IsTried (key : SampleKey) (status : Status) (bytes : List ℕ) : Type 0 where
  pub plan : Plan
  pub cuts : List Cut
  pub stands : ReadsAs (network_of key) trial_model (parts_of_key key)
  pub searched : IsSearched (parts_of_key key) cuts TRIAL_BUDGET plan
  pub line : bytes ≡ trial_line (parts_of_key key) plan
  pub is_status : status ≡ status_of_plan plan.status

-- this is done with a sample, with this status and this text
abbrev pub IsMade : SampleWork → SampleKey → Status → List ℕ → Type 0
IsMade Sample key status bytes = IsSampled key status bytes
IsMade Trial key status bytes = IsTried key status bytes
