use Rattle.cert_verifier.proofs.CostTotals.{AreCosted}
use Rattle.cert_verifier.proofs.leaves.cost_of_paths.Given as goal

abbrev pub invariant-loop-place : goal.invariant-loop-place
invariant-loop-place l = AreCosted l.inst l.loads l.place l.total
