use Rattle.std.proofs.Common.{arith, ◌∙◌, sym, ap, refl}
use Rattle.scaled_numbers.specs.Canonical.{behind_point, padded}
use Rattle.scaled_numbers.proofs.Fractions.{few_digits, pointed, shown-padded, length-padded, take-written}
use Rattle.scaled_numbers.proofs.grains.Fraction.text.Goals as goal

pub returns-then-self-eq0-clause-text : goal.returns-then-self-eq0-clause-text
returns-then-self-eq0-clause-text c = rw c.if-self-eq0.true refl

pub write_digits-requires : goal.write_digits-requires
write_digits-requires c =
    let fits = few_digits c.args.self.places c.args.self.digits (omega arith) (omega arith) c.args.self.fits in
    (omega (arith, fits), omega (arith, c.args.self.within))

pub returns-clause-text : goal.returns-clause-text
returns-clause-text c =
    let places = c.args.self.places in
    let digits = c.args.self.digits in
    let fits = few_digits places digits (omega arith) (omega arith) c.args.self.fits in
    let w = c.write_digits.ensures in
    take-written places digits c.write_digits.result c.write_digits.new.buf _ c.args.self.within fits w.start w.written w.before
    ∙ sym (pointed (padded places digits) (omega (arith, length-padded places digits fits)))
    ∙ ap behind_point (sym (shown-padded places digits (omega arith)))
