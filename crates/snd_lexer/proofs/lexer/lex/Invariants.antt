use Rattle.std.proofs.Common.{length, ◌-◌, ◌≤◌}
use Rattle.snd_lexer.proofs.Cuts.{CutTo}
use Rattle.snd_lexer.proofs.lexer.lex.Given as goal

abbrev pub invariant-loop-at : goal.invariant-loop-at
invariant-loop-at l = record { cut : CutTo l.dialect l.text l.at l.tokens.items; within : l.at ≤ length l.text }

abbrev pub decreases-loop-at : goal.decreases-loop-at
decreases-loop-at l = length l.text - l.at
