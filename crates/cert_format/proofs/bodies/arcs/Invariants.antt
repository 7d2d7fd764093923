use Rattle.std.proofs.Common.{◌≡◌, drop}
use Rattle.plan_tokens.specs.Words.{each}
use Rattle.cert_format.specs.Bodies.{arc_of}
use Rattle.plan_tokens.proofs.NumberWords.{with_front}
use Rattle.cert_format.proofs.bodies.arcs.Given as goal

abbrev pub invariant-loop-n : goal.invariant-loop-n
invariant-loop-n l = with_front l.arcs.items (each arc_of (drop l.n-index l.numbers)) ≡ each arc_of l.numbers
