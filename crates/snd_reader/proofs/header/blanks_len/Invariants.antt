use Rattle.std.proofs.Common.{◌≡◌, ◌+◌, length, drop}
use Rattle.snd_lexer.specs.Pieces.{front}
use Rattle.snd_reader.specs.Header.{is_line_blank}
use Rattle.snd_reader.proofs.header.blanks_len.Given as goal

abbrev pub invariant-loop-i : goal.invariant-loop-i
invariant-loop-i l = l.i + length (front is_line_blank (drop l.i l.text)) ≡ length (front is_line_blank l.text)
