use Rattle.std.proofs.Common.{List, slice_index_or, ap}
use Rattle.plan_base.specs.declared.parts.Module.{Module}
use Rattle.plan_base.specs.Designs.{no_module}
use Rattle.link_steps.proofs.DivisorLaws.{DividesTo-next}
use Rattle.link_steps.proofs.unit.with_modules.Goals as goal

pub loop-module-preserved : goal.loop-module-preserved
loop-module-preserved c =
    let i = c.loop-module.module-index in
    let cost = ap (λ (modules : List Module). (slice_index_or modules i no_module).cost) c.as_slice-module-items.ensures.value in
    DividesTo-next c.args.link.now i c.args.number c.loop-module.divisor _ c.common_divisor-divisor.result cost c.loop-module.invariant c.common_divisor-divisor.ensures.divisor
