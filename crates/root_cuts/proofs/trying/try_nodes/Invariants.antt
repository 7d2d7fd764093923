use Rattle.std.proofs.Common.{◌≡◌, length}
use Rattle.root_cuts.proofs.trying.try_nodes.Given as goal

-- the table is one of the instance, and each demand has its list
abbrev pub invariant-loop : goal.invariant-loop
invariant-loop l = (l.table.problem ≡ l.ground.inst.now) × (length l.sight.columns ≡ length l.ground.inst.now.demands)
