use Rattle.link_steps.proofs.DivisorLaws.{IsModuleDivisor-next}
use Rattle.link_steps.proofs.unit.module_divisor.Goals as goal

pub loop-place-preserved : goal.loop-place-preserved
loop-place-preserved c =
    IsModuleDivisor-next c.args.inst.now c.loop-place.place c.loop-place.divisor c.with_modules-divisor.result c.link.result.now c.link.ensures.value c.loop-place.invariant c.with_modules-divisor.ensures
