use Rattle.std.proofs.Common.{arith}
use Rattle.scaled_numbers.proofs.CanonicalTexts.{grains_text-canonical}
use Rattle.scaled_numbers.proofs.grains.write_grains.Goals as goal

pub returns-in_err-reserve-clause-canonical : goal.returns-in_err-reserve-clause-canonical
returns-in_err-reserve-clause-canonical c = grains_text-canonical c.args.value c.args.scale (omega (arith, c.ranges.value.fits)) (omega arith)

pub returns-clause-canonical : goal.returns-clause-canonical
returns-clause-canonical c = grains_text-canonical c.args.value c.args.scale (omega (arith, c.ranges.value.fits)) (omega arith)
