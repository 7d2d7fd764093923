-- How the words of a command line are read.
use Rattle.std.specs.Prelude.{ℕ, ◌≤◌, List, [], ◌∷◌, length, Option, Some, None, Bool, ◌&&◌, if◌then◌else◌, codes, nat_le, nat_lt, option_map, option_and_then}
use Rattle.std.specs.Str.{bytes_eq, all_ascii_digits}
use Rattle.std.specs.Str.Parse.{digits_value, without_leading_plus}
use Rattle.std.specs.Borrow.{Bor}
pub use Rattle.option_words.specs.Given.{Word}
use Rattle.option_words.specs.Given.{told}
use Rattle.plan_io.specs.declared.gate.TheConstants.{MAX_WORKERS}
use Rattle.proof_tree.specs.declared.limits.TheConstants.{MAX_BUDGET}
use Rattle.instance_maker.specs.declared.limits.TheConstants.{MAX_NUMBER, MIN_NODES, MAX_NODES, MAX_DEMANDS}
use Rattle.command_words.specs.declared.command.Command.{Command}
use Rattle.command_words.specs.declared.command.SampleKey.{SampleKey}
use Rattle.command_words.specs.declared.command.Command.TheVariants.{OfNetwork, OfPlan, Upgrade, OfSample}
use Rattle.command_words.specs.declared.command.NetworkWork.{NetworkWork}
use Rattle.command_words.specs.declared.command.NetworkWork.TheVariants.{Plan, Check}
use Rattle.command_words.specs.declared.command.PlanWork.{PlanWork}
use Rattle.command_words.specs.declared.command.PlanWork.TheVariants.{Verify, Report}
use Rattle.command_words.specs.declared.command.SampleWork.{SampleWork}
use Rattle.command_words.specs.declared.command.SampleWork.TheVariants.{Sample, Trial}
use Rattle.command_words.specs.declared.command.TheConstants.{DEFAULT_WORKERS, DEFAULT_BUDGET}

-- ---- numbers

-- digits, at least one
abbrev pub is_numeral : Word → Bool
is_numeral digits = nat_lt 0 (length digits) && all_ascii_digits digits

-- the number of a word that is an optional plus and digits, where it lies in this range
abbrev pub number_within : ℕ → ℕ → Word → Option ℕ
number_within least most word =
    let digits = without_leading_plus word in
    if is_numeral digits && nat_le least (digits_value 10 digits) && nat_le (digits_value 10 digits) most then Some (digits_value 10 digits)
    else None

-- ---- the command

-- the budget of `plan`: a number from 1 to 4,096, or what stands for none
abbrev pub budget_of : Option Word → Option ℕ
budget_of None = Some DEFAULT_BUDGET
budget_of (Some word) = number_within 1 MAX_BUDGET word

-- the workers of `plan`: a number from 1 to 64, or what stands for none
abbrev pub workers_of : Option Word → Option ℕ
workers_of None = Some DEFAULT_WORKERS
workers_of (Some word) = number_within 1 MAX_WORKERS word

-- the command `plan` of two texts
abbrev pub plan_of : Word → Word → Option Word → Option Word → Option (Command Word)
plan_of network model workers budget =
    option_and_then (λ seats. option_map (λ number. OfNetwork (Plan seats number) network model) (budget_of budget)) (workers_of workers)

-- the sample of this number with so many nodes and demands
abbrev pub key_of_sample : ℕ → ℕ → ℕ → SampleKey
key_of_sample number nodes demands = record { number = number; nodes = nodes; demands = demands }

-- the sample that three words name: its number, how many nodes, and how many demands
abbrev pub sample_key : Word → Word → Word → Option SampleKey
sample_key number nodes demands =
    option_and_then (λ first. option_and_then (λ second. option_map (key_of_sample first second)
    (number_within 0 MAX_DEMANDS demands)) (number_within MIN_NODES MAX_NODES nodes)) (number_within 0 MAX_NUMBER number)

-- ---- what its words give

-- the command `plan` of what is given to its names, and to `--workers` and `--nodes`
unfoldable pub plan_said : List (Option Word) → Option (Command Word)
plan_said (Some network ∷ Some model ∷ workers ∷ budget ∷ []) = plan_of network model workers budget
plan_said _ = None

-- the command `check` of what is given to its names
unfoldable pub check_said : List (Option Word) → Option (Command Word)
check_said (Some network ∷ Some model ∷ []) = Some (OfNetwork Check network model)
check_said _ = None

-- the command that does this with the plan of what is given to its names
unfoldable pub of_plan_said : PlanWork → List (Option Word) → Option (Command Word)
of_plan_said work (Some network ∷ Some model ∷ Some plan ∷ []) = Some (OfPlan work network model plan)
of_plan_said work _ = None

-- the command `upgrade` of what is given to its name
unfoldable pub upgrade_said : List (Option Word) → Option (Command Word)
upgrade_said (Some plan ∷ []) = Some (Upgrade plan)
upgrade_said _ = None

-- the sample of what is given to the names of a command about it
unfoldable pub key_said : List (Option Word) → Option SampleKey
key_said (Some number ∷ Some nodes ∷ Some demands ∷ []) = sample_key number nodes demands
key_said _ = None

-- the command that does this with this sample
abbrev pub sample_of : SampleWork → SampleKey → Command Word
sample_of work key = OfSample work key

-- the command that does this with the sample of what is given to its names
unfoldable pub of_sample_said : SampleWork → List (Option Word) → Option (Command Word)
of_sample_said work given = option_map (sample_of work) (key_said given)

-- ---- the command words

-- the options of `plan`
abbrev pub plan_options : List Word
plan_options = codes "workers" ∷ codes "nodes" ∷ []

-- the names of a command about a network
abbrev pub network_names : List Word
network_names = codes "network" ∷ codes "model" ∷ []

-- the names of a command about a plan
abbrev pub plan_names : List Word
plan_names = codes "network" ∷ codes "model" ∷ codes "plan" ∷ []

-- the name of a command about a plan by itself
abbrev pub alone_names : List Word
alone_names = codes "plan" ∷ []

-- the names of a command about a sample
abbrev pub sample_names : List Word
sample_names = codes "number" ∷ codes "nodes" ∷ codes "demands" ∷ []

-- the command of a word and those behind it: for each command word its names, its options, and what they mean
abbrev pub command_by : Word → List Word → Option (Command Word)
command_by word rest =
    if bytes_eq word (codes "plan") then option_and_then plan_said (told network_names plan_options rest)
    else if bytes_eq word (codes "check") then option_and_then check_said (told network_names [] rest)
    else if bytes_eq word (codes "verify") then option_and_then (of_plan_said Verify) (told plan_names [] rest)
    else if bytes_eq word (codes "report") then option_and_then (of_plan_said Report) (told plan_names [] rest)
    else if bytes_eq word (codes "upgrade") then option_and_then upgrade_said (told alone_names [] rest)
    else if bytes_eq word (codes "sample") then option_and_then (of_sample_said Sample) (told sample_names [] rest)
    else if bytes_eq word (codes "trial") then option_and_then (of_sample_said Trial) (told sample_names [] rest)
    else None

-- the command that the words ask for, where they are read
abbrev pub command_in : List Word → Option (Command Word)
command_in [] = None
command_in (word ∷ rest) = command_by word rest

-- ---- of the code

-- the command with what is behind its references
abbrev pub command_now : {N : Type 0} → Command (Bor N) → Command N
command_now (OfNetwork work network model) = OfNetwork work network.now model.now
command_now (OfPlan work network model plan) = OfPlan work network.now model.now plan.now
command_now (Upgrade plan) = Upgrade plan.now
command_now (OfSample work key) = OfSample work key

-- how many texts the command names
abbrev pub name_count : {N : Type 0} → Command N → ℕ
name_count (OfNetwork work network model) = 2
name_count (OfPlan work network model plan) = 3
name_count (Upgrade plan) = 1
name_count (OfSample work key) = 0

-- so many nodes may be examined
pub record IsBudget (budget : ℕ) : Type 0 where
  pub some : 1 ≤ budget
  pub within : budget ≤ MAX_BUDGET

-- so many workers may work
pub record AreWorkers (workers : ℕ) : Type 0 where
  pub some : 1 ≤ workers
  pub within : workers ≤ MAX_WORKERS

-- a sample of this number, with so many nodes and demands, is made
pub record IsSampleKey (key : SampleKey) : Type 0 where
  pub number : key.number ≤ MAX_NUMBER
  pub some : MIN_NODES ≤ key.nodes
  pub few : key.nodes ≤ MAX_NODES
  pub demands : key.demands ≤ MAX_DEMANDS

-- the numbers of what is done with a network, where it has some, are within their ranges
abbrev pub AreInRange : NetworkWork → Type 0
AreInRange (Plan workers budget) = AreWorkers workers × IsBudget budget
AreInRange Check = Unit {0}

-- the numbers of a command, where it has some, are within their ranges
abbrev pub IsInRange : {N : Type 0} → Command N → Type 0
IsInRange (OfNetwork work network model) = AreInRange work
IsInRange (OfPlan work network model plan) = Unit {0}
IsInRange (Upgrade plan) = Unit {0}
IsInRange (OfSample work key) = IsSampleKey key
