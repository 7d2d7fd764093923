use Rattle.std.proofs.Common.{◌≡◌, length}
use Rattle.gate_layers.proofs.columns.tell_each.Given as goal

abbrev pub invariant-loop-word : goal.invariant-loop-word
invariant-loop-word l = length l.pool ≡ length l.initial.pool
