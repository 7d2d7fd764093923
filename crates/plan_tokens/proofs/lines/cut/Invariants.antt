use Rattle.std.proofs.Common.{take}
use Rattle.plan_tokens.specs.Cuts.{Lacks}
use Rattle.plan_tokens.proofs.lines.cut.Given as goal

-- the byte has not stood there yet
abbrev pub invariant-loop-place : goal.invariant-loop-place
invariant-loop-place l = Lacks l.at (take l.place l.bytes)
