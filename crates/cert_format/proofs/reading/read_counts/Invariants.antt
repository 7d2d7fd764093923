use Rattle.std.proofs.Common.{◌≡◌}
use Rattle.plan_tokens.specs.Lines.{lines_of}
use Rattle.cert_format.specs.Bodies.{modules_of}
use Rattle.cert_format.specs.Reading.{many}
use Rattle.cert_format.proofs.Accepting.{in_front}
use Rattle.cert_format.proofs.reading.read_counts.Given as goal

abbrev pub invariant-loop-left : goal.invariant-loop-left
invariant-loop-left l = in_front l.counts.items (many l.left modules_of (lines_of l.rest)) ≡ many l.links modules_of (lines_of l.text)

abbrev pub decreases-loop-left : goal.decreases-loop-left
decreases-loop-left l = l.left
