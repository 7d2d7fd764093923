use Rattle.std.proofs.Common.{◌≡◌, map, take}
use Rattle.model_check.specs.Reading.{module_of}
use Rattle.model_check.proofs.valuing.modules_of.Given as goal

-- the modules before this one are valued
abbrev pub invariant-loop-capacity : goal.invariant-loop-capacity
invariant-loop-capacity l = l.found.items ≡ map module_of (take l.capacity-index l.modules)
