use Rattle.std.proofs.Common.{◌≡◌, length}
use Rattle.root_cuts.proofs.rounds.go_rounds.Given as goal

-- the table is one of the instance, and each demand has its list
abbrev pub invariant-loop-round : goal.invariant-loop-round
invariant-loop-round l = (l.table.problem ≡ l.ground.inst.now) × (length l.sight.columns ≡ length l.ground.inst.now.demands)
