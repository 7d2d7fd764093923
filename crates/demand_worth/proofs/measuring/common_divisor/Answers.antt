use Rattle.std.proofs.Common.{◌≡◌, arith}
use Rattle.std.proofs.Math.Nat.{mod-lt}
use Rattle.std.proofs.lemmas.Nat.Gcd.{IsGcd-from_mod, IsGcd-from_zero}
use Rattle.demand_worth.proofs.measuring.common_divisor.Goals as goal

pub loop-smaller-init : goal.loop-smaller-init
loop-smaller-init c = λ divisor is. is

pub loop-smaller-preserved : goal.loop-smaller-preserved
loop-smaller-preserved c = λ divisor is. c.loop-smaller.invariant divisor (IsGcd-from_mod c.loop-smaller.larger c.loop-smaller.smaller divisor is)

pub loop-smaller-smaller : goal.loop-smaller-smaller
loop-smaller-smaller c = mod-lt c.loop-smaller.larger c.loop-smaller-test.true

pub returns : goal.returns
returns c =
    let none : c.loop-smaller.smaller ≡ 0 = omega (arith, c.loop-smaller-test.false) in
    c.loop-smaller.invariant c.loop-smaller.larger (IsGcd-from_zero c.loop-smaller.larger c.loop-smaller.smaller none)
