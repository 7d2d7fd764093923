use Rattle.std.proofs.Common.{◌≡◌, ◌≤◌, ◌+◌, length}
use Rattle.snd_reader.specs.Brackets.{skip}
use Rattle.snd_reader.proofs.brackets.skip.Given as goal

abbrev pub invariant-tokens : goal.invariant-tokens
invariant-tokens l = record {
  left : skip l.depth l.cursor ≡ skip 0 l.fn.cursor;
  within : l.depth + length l.cursor ≤ length l.fn.cursor;
}

abbrev pub decreases-tokens : goal.decreases-tokens
decreases-tokens l = length l.cursor
