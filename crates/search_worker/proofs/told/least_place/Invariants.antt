use Rattle.std.proofs.Common.{◌<◌, length}
use Rattle.search_worker.proofs.told.least_place.Given as goal

abbrev pub invariant-loop-place : goal.invariant-loop-place
invariant-loop-place l = l.least < length l.columns
