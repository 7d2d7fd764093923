use Rattle.std.proofs.Common.{◌≡◌, drop}
use Rattle.plan_tokens.specs.Words.{each}
use Rattle.cert_format.specs.Bodies.{fitting_count}
use Rattle.plan_tokens.proofs.NumberWords.{with_front}
use Rattle.cert_format.proofs.bodies.counts.Given as goal

abbrev pub invariant-loop-n : goal.invariant-loop-n
invariant-loop-n l = with_front l.counts.items (each fitting_count (drop l.n-index l.numbers)) ≡ each fitting_count l.numbers
