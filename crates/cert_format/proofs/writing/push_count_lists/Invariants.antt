use Rattle.std.proofs.Common.{◌≡◌, ◌++◌, take, map}
use Rattle.std.specs.List.{AllByRecursion}
use Rattle.cert_format.specs.Grammar.{modules_line, AreWithin}
use Rattle.cert_format.specs.Written.{lines_text}
use Rattle.cert_format.proofs.writing.push_count_lists.Given as goal

abbrev pub invariant-loop-counts : goal.invariant-loop-counts
invariant-loop-counts l = (l.out.items ≡ l.fn.out.items ++ lines_text (map modules_line (take l.counts-index l.lists)))
    × AllByRecursion (AreWithin 64) (take l.counts-index l.lists)
