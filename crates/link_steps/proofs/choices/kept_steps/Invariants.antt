use Rattle.std.proofs.Common.{◌≡◌, map, take}
use Rattle.link_steps.specs.Choices.{kept_step}
use Rattle.link_steps.proofs.choices.kept_steps.Given as goal

-- the steps before this one are kept
abbrev pub invariant-loop-step : goal.invariant-loop-step
invariant-loop-step l = l.steps.items ≡ map kept_step (take l.step-index l.found)
