use Rattle.std.proofs.Common.{◌+◌, ◌<◌, ◌^◌, ◌≤◌, arith}
use Rattle.std.proofs.Math.Nat.{pow-le-pow_right}
use Rattle.scaled_numbers.proofs.CanonicalTexts.{grains_text-canonical}
use Rattle.scaled_numbers.proofs.Deciding.{answered}
use Rattle.scaled_numbers.specs.Canonical.{grains_text}
use Rattle.scaled_numbers.proofs.laws.written_is_read_back.Goals as goal

pub returns : goal.returns
returns c = λ value scale within small.
    let short : 12 + scale ≤ 64 = omega arith in
    let wide : value < 10 ^ 64 = omega (arith, small, pow-le-pow_right {n = 10} (omega arith) short) in
    let h = grains_text-canonical value scale wide (omega arith) in
    (answered (grains_text value scale) scale).read_only value (record { spelt = record { numeral = h.numeral; spells = h.spells; value = h.value }; small = small })
