use Rattle.std.proofs.Common.{◌≡◌, ◌++◌, ◌∷◌, length, take}
use Rattle.cert_format.specs.Grammar.{AreWithin}
use Rattle.cert_format.proofs.writing.push_counts.Given as goal

abbrev pub invariant-loop-count : goal.invariant-loop-count
invariant-loop-count l = (l.numbers.items ≡ l.fn.numbers.items ++ (length l.counts ∷ take l.count-index l.counts))
    × AreWithin 64 (take l.count-index l.counts)
