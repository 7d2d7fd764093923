use Rattle.std.proofs.Common.{◌≡◌, ◌-◌, drop}
use Rattle.cert_format.specs.Bodies.{ascends}
use Rattle.cert_format.proofs.records.ascends.Given as goal

abbrev pub invariant-loop-place : goal.invariant-loop-place
invariant-loop-place l = ascends (drop (l.place - 1) l.numbers) ≡ ascends l.numbers
