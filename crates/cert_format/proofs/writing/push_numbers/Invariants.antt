use Rattle.std.proofs.Common.{◌≡◌, ◌++◌, take}
use Rattle.plan_tokens.specs.Words.{numerals}
use Rattle.cert_format.specs.Grammar.{AreWithin}
use Rattle.cert_format.proofs.writing.push_numbers.Given as goal

abbrev pub invariant-loop-n : goal.invariant-loop-n
invariant-loop-n l = (l.out.items ≡ l.fn.out.items ++ numerals (take l.n-index l.numbers))
    × AreWithin 128 (take l.n-index l.numbers)
