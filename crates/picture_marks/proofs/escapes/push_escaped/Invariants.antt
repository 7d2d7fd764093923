use Rattle.std.proofs.Common.{◌≡◌, ◌++◌, take}
use Rattle.picture_marks.specs.Escapes.{escaped}
use Rattle.picture_marks.proofs.escapes.push_escaped.Given as goal

-- the bytes before this one are written
abbrev pub invariant-loop-byte : goal.invariant-loop-byte
invariant-loop-byte l = l.text.items ≡ l.initial.text.items ++ escaped (take l.byte-index l.name)
