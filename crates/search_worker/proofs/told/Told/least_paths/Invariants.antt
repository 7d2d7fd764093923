use Rattle.search_worker.proofs.PathLists.{AreFirstPaths}
use Rattle.search_worker.proofs.told.Told.least_paths.Given as goal

abbrev pub invariant-loop-number : goal.invariant-loop-number
invariant-loop-number g l = AreFirstPaths l.inst l.number l.paths.items
