use Rattle.std.proofs.Common.{◌≡◌}
use Rattle.gate_histories.proofs.threads.add_often.Given as goal

abbrev pub invariant-loop : goal.invariant-loop
invariant-loop g l = l.me.pass.table_id ≡ l.initial.me.pass.table_id
