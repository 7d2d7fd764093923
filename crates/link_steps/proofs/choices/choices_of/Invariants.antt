use Rattle.std.proofs.Common.{◌≡◌, take}
use Rattle.link_steps.specs.Choices.{choices_of}
use Rattle.link_steps.proofs.choices.choices_of.Given as goal

-- the modules before this one are choices
abbrev pub invariant-loop-module : goal.invariant-loop-module
invariant-loop-module l = l.choices.items ≡ choices_of (take l.module-index l.modules)
