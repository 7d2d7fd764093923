use Rattle.std.proofs.Common.{◌≡◌, subst}
use Rattle.std.specs.Prelude.{[]}
use Rattle.scaled_numbers.specs.declared.scan.Stage.{Stage}
use Rattle.scaled_numbers.specs.declared.scan.Stage.TheVariants.{Power}
use Rattle.scaled_numbers.specs.Kept.{Expects}
use Rattle.scaled_numbers.proofs.Keeping.{digit_is, keep_whole, keep_fraction, keep_power}
use Rattle.scaled_numbers.proofs.scan.Scan.keep.Goals as goal

pub returns-in-Whole-Digit-clause-sees : goal.returns-in-Whole-Digit-clause-sees
returns-in-Whole-Digit-clause-sees c = λ n x r.
    let none : n.fraction ≡ [] = subst (λ (st : Stage). Expects st n) c.in-Whole-Digit.is-0 x in
    rw (c.in-Whole-Digit.is-0, c.in-Whole-Digit.is-1) (keep_whole c.args.self c.push.result _ n c.args.byte none (digit_is c.args.byte c.args.glyph c.requires.glyph c.in-Whole-Digit.is-1) (c.push.ensures.holds _ r.digits) r)

pub returns-in-Fraction-Digit-clause-sees : goal.returns-in-Fraction-Digit-clause-sees
returns-in-Fraction-Digit-clause-sees c = λ n x r.
    rw (c.in-Fraction-Digit.is-0, c.in-Fraction-Digit.is-1) (keep_fraction c.args.self c.push-in-Fraction-Digit.result _ n c.args.byte (digit_is c.args.byte c.args.glyph c.requires.glyph c.in-Fraction-Digit.is-1) (c.push-in-Fraction-Digit.ensures.holds _ r.digits) r)

pub returns-in-Power-Digit-clause-sees : goal.returns-in-Power-Digit-clause-sees
returns-in-Power-Digit-clause-sees c = λ n x r.
    let has : Expects Power n = subst (λ (st : Stage). Expects st n) c.in-Power-Digit.is-0 x in
    rw (c.in-Power-Digit.is-0, c.in-Power-Digit.is-1) (keep_power c.args.self _ n c.args.byte c.min.result has (digit_is c.args.byte c.args.glyph c.requires.glyph c.in-Power-Digit.is-1) (rw (← c.from.ensures) c.min.ensures) r)
