use Rattle.std.proofs.Common.{◌≡◌, length}
use Rattle.gate_layers.proofs.made.columns.first_differing.Given as goal

abbrev pub invariant-loop-number : goal.invariant-loop-number
invariant-loop-number l = length l.pool ≡ 2
