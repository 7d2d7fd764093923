use Rattle.std.proofs.Common.{◌≡◌, []}
use Rattle.plan_tokens.specs.Lines.{lines_of}
use Rattle.cert_format.specs.Reading.{lists}
use Rattle.cert_format.proofs.reading.read_lists.Given as goal

abbrev pub invariant-loop-left : goal.invariant-loop-left
invariant-loop-left l = lists l.entries l.left l.lists (lines_of l.rest) ≡ lists l.entries l.stated [] (lines_of l.text)

abbrev pub decreases-loop-left : goal.decreases-loop-left
decreases-loop-left l = l.left
