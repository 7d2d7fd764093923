-- How a link keeps steps of at most one module each. No public contract cites it.
use Rattle.std.specs.Prelude.{ℕ, ◌<◌, ◌≤◌, ◌+◌, ◌↔◌, List, length, map}
use Rattle.std.specs.Option.{unwrap_or}
use Rattle.plan_base.specs.declared.parts.Module.{Module}
use Rattle.explicit_steps.specs.declared.choices.Choice.{Choice}
use Rattle.explicit_steps.specs.declared.choices.ChoiceStep.{ChoiceStep}
use Rattle.explicit_steps.specs.Choices.{IsLeastCost, CannotReach}
use Rattle.explicit_steps.specs.Steps.{step_at, RisesInReach, RisesInCost, IsFirstReaching, NoneReaches, HasItsChoice, AreNeeded}
use Rattle.link_steps.specs.declared.step.Step.{Step}

-- a module as a choice
abbrev pub choice_of : Module → Choice
choice_of m = record { capacity = m.capacity; cost = m.cost }

-- the modules of a link as choices, in order
abbrev pub choices_of : List Module → List Choice
choices_of modules = map choice_of modules

-- what is kept of a step of choices: the number of its choice is that of the module
abbrev pub kept_step : ChoiceStep → Step
kept_step step = record { reach = step.reach; cost = step.cost; before = 0; added = unwrap_or step.choice 0 }

-- what `choice_steps` promises of the steps that it finds
pub record AreChoiceSteps (pre : ℕ) (choices : List Choice) (top : ℕ) (found : List ChoiceStep) : Type 0 where
  pub reaches : RisesInReach found
  pub costs : RisesInCost found
  pub least : (load place : ℕ) → load ≤ top → IsFirstReaching found load place → IsLeastCost pre choices load (step_at found place).cost
  pub choice : (place : ℕ) → place < length found → HasItsChoice pre choices (step_at found place)
  pub none : (load : ℕ) → load ≤ top → (NoneReaches found load ↔ CannotReach pre choices load)
  pub needed : AreNeeded top found
  pub few : length found ≤ length choices + 1
