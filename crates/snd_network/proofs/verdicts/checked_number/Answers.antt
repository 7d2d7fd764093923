use Rattle.std.proofs.Common.{rules, arith, ◌≡◌}
use Rattle.std.specs.Prelude.{Err}
use Rattle.scaled_numbers.specs.declared.fault.NumberFault.TheVariants.{NotANumber}
use Rattle.scaled_numbers.specs.Decimal.{IsMisfit}
use Rattle.snd_network.proofs.verdicts.checked_number.Goals as goal

pub overflow_add-result : goal.overflow_add-result
overflow_add-result c =
    let at = c.in-Err-NotANumber.at in
    let told : c.read_decimal.result ≡ Err (NotANumber at) = search rules in
    let misfit : IsMisfit c.args.bytes.now at = (c.read_decimal.ensures.fault (NotANumber at)).0 told in
    omega (arith, misfit.within, c.requires.short, c.requires.before)
