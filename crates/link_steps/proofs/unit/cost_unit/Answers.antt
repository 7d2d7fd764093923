use Rattle.std.proofs.Common.{arith}
use Rattle.std.proofs.Math.Nat.{mul-le-mul}
use Rattle.link_steps.proofs.DivisorLaws.{IsUnit-made}
use Rattle.link_steps.proofs.unit.cost_unit.Goals as goal

pub overflow_mul-routed : goal.overflow_mul-routed
overflow_mul-routed c = (let product = mul-le-mul c.routing_divisor.ensures.within c.load_divisor.ensures.within in search (arith, product))

pub returns : goal.returns
returns c =
    rw c.max.ensures
    (IsUnit-made c.args.inst.now c.module_divisor.result c.routing_divisor.result c.load_divisor.result c.common_divisor.result
    c.module_divisor.ensures c.routing_divisor.ensures.divisor c.load_divisor.ensures.divisor c.common_divisor.ensures.divisor)
