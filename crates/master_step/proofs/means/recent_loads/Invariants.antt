use Rattle.std.proofs.Common.{◌≡◌, length}
use Rattle.master_step.proofs.means.recent_loads.Given as goal

abbrev pub invariant-loop-place : goal.invariant-loop-place
invariant-loop-place l = length l.loads.items ≡ l.place
