use Rattle.std.proofs.Common.{◌≡◌, length}
use Rattle.plan_tokens.specs.Words.{numbers_of}
use Rattle.plan_tokens.proofs.NumberWords.{with_front}
use Rattle.plan_tokens.proofs.words.numbers.Given as goal

-- the numbers so far, and those of the rest, are those of all bytes
abbrev pub invariant-loop-rest : goal.invariant-loop-rest
invariant-loop-rest l = with_front l.numbers.items (numbers_of l.rest) ≡ numbers_of l.bytes

abbrev pub decreases-loop-rest : goal.decreases-loop-rest
decreases-loop-rest l = length l.rest
