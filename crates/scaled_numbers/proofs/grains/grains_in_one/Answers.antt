use Rattle.std.proofs.Common.{arith}
use Rattle.std.proofs.Math.Nat.{pow-le-pow_right}
use Rattle.scaled_numbers.proofs.Powers.{one-le-ten}
use Rattle.scaled_numbers.proofs.grains.grains_in_one.Goals as goal

pub returns-clause-some : goal.returns-clause-some
returns-clause-some c = omega (arith, one-le-ten c.args.scale, c.pow.ensures)

pub returns-clause-within : goal.returns-clause-within
returns-clause-within c = omega (arith, pow-le-pow_right {n = 10} (omega arith) c.requires, c.pow.ensures)
