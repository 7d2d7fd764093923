use Rattle.std.proofs.Common.{◌≡◌, ◌++◌, take, map}
use Rattle.std.specs.List.{AllByRecursion}
use Rattle.cert_format.specs.Grammar.{cut_line, HasCutFields}
use Rattle.cert_format.specs.Written.{lines_text}
use Rattle.cert_format.proofs.writing.push_cut_lines.Given as goal

abbrev pub invariant-loop-cut : goal.invariant-loop-cut
invariant-loop-cut l = (l.out.items ≡ l.fn.out.items ++ lines_text (map cut_line (take l.cut-index l.cuts)))
    × AllByRecursion HasCutFields (take l.cut-index l.cuts)
