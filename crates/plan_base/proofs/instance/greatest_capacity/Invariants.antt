use Rattle.std.proofs.Common.{◌≡◌, take}
use Rattle.plan_base.specs.Facts.{greatest_capacity}
use Rattle.plan_base.proofs.instance.greatest_capacity.Given as goal

-- the greatest capacity so far
abbrev pub invariant-loop-module : goal.invariant-loop-module
invariant-loop-module l = l.most ≡ greatest_capacity (take l.module-index l.modules)
