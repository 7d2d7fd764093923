use Rattle.std.proofs.Common.{◌≡◌, arith}
use Rattle.std.proofs.Math.Nat.{mod-lt}
use Rattle.link_steps.proofs.DivisorLaws.{IsCommonDivisor-step, IsCommonDivisor-last}
use Rattle.link_steps.proofs.unit.common_divisor.Goals as goal

pub loop-smaller-init : goal.loop-smaller-init
loop-smaller-init c = record { same = λ divisor is. is; within = omega arith }

pub loop-smaller-preserved : goal.loop-smaller-preserved
loop-smaller-preserved c = record {
  same = λ divisor is. c.loop-smaller.invariant.same divisor (IsCommonDivisor-step c.loop-smaller.larger c.loop-smaller.smaller divisor is);
  within = omega (arith, mod-lt c.loop-smaller.larger c.loop-smaller-test.true, c.loop-smaller.invariant.within);
}

pub loop-smaller-smaller : goal.loop-smaller-smaller
loop-smaller-smaller c = mod-lt c.loop-smaller.larger c.loop-smaller-test.true

pub returns-clause-divisor : goal.returns-clause-divisor
returns-clause-divisor c =
    let none : c.loop-smaller.smaller ≡ 0 = omega (arith, c.loop-smaller-test.false) in
    c.loop-smaller.invariant.same c.loop-smaller.larger (IsCommonDivisor-last c.loop-smaller.larger c.loop-smaller.smaller none)
