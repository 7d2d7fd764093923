use Rattle.std.proofs.Common.{ap, ◌∙◌, arith}
use Rattle.std.proofs.lemmas.List.{take_all}
use Rattle.plan_base.specs.Facts.{greatest_capacity}
use Rattle.plan_base.proofs.instance.greatest_capacity.Goals as goal

pub returns : goal.returns
returns c = c.loop-module.invariant ∙ ap greatest_capacity (take_all c.loop-module.module-index c.args.modules.now (omega arith))
