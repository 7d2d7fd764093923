use Rattle.std.proofs.Common.{◌≡◌, ◌++◌, ◌∷◌, length, take}
use Rattle.cert_format.specs.Grammar.{arc_numbers, AreArcs}
use Rattle.cert_format.proofs.writing.push_arcs.Given as goal

abbrev pub invariant-loop-arc : goal.invariant-loop-arc
invariant-loop-arc l = (l.numbers.items ≡ l.fn.numbers.items ++ (length l.arcs ∷ arc_numbers (take l.arc-index l.arcs)))
    × AreArcs (take l.arc-index l.arcs)
