use Rattle.std.proofs.Common.{◌≡◌, arith, add-zero}
use Rattle.scaled_numbers.proofs.Powers.{holds_digit, holds_zero}
use Rattle.scaled_numbers.proofs.digits.Digits.push.Goals as goal

pub returns-then-digit-gt0-clause-holds : goal.returns-then-digit-gt0-clause-holds
returns-then-digit-gt0-clause-holds c = λ n h. rw (c.min.ensures, c.shifted-core.ensures, c.from.ensures) (holds_digit c.args.self.core c.args.self.zeros n c.args.digit (omega arith) (omega arith) h)

pub returns-clause-holds : goal.returns-clause-holds
returns-clause-holds c = λ n h. let none : c.args.digit ≡ 0 = omega arith in rw (none, add-zero) (holds_zero c.args.self.core c.args.self.zeros n h)
