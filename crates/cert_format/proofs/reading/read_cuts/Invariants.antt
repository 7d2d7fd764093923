use Rattle.std.proofs.Common.{◌≡◌}
use Rattle.plan_tokens.specs.Lines.{lines_of}
use Rattle.cert_format.specs.Bodies.{load_cut_row}
use Rattle.cert_format.specs.Reading.{many}
use Rattle.cert_format.proofs.Accepting.{in_front}
use Rattle.cert_format.proofs.reading.read_cuts.Given as goal

abbrev pub invariant-loop-left : goal.invariant-loop-left
invariant-loop-left l = in_front l.cuts.items (many l.left (load_cut_row l.nodes) (lines_of l.rest)) ≡ many l.count (load_cut_row l.nodes) (lines_of l.text)

abbrev pub decreases-loop-left : goal.decreases-loop-left
decreases-loop-left l = l.left
