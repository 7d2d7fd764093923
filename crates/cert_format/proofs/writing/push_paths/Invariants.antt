use Rattle.std.proofs.Common.{◌≡◌, ◌++◌, take, map}
use Rattle.std.specs.List.{AllByRecursion}
use Rattle.cert_format.specs.Grammar.{path_line, AreArcs}
use Rattle.cert_format.specs.Written.{lines_text}
use Rattle.cert_format.proofs.writing.push_paths.Given as goal

abbrev pub invariant-loop-path : goal.invariant-loop-path
invariant-loop-path l = (l.out.items ≡ l.fn.out.items ++ lines_text (map path_line (take l.path-index l.paths)))
    × AllByRecursion AreArcs (take l.path-index l.paths)
