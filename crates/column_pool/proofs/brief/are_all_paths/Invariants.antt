use Rattle.column_pool.specs.Briefs.{AreAllPaths}
use Rattle.column_pool.proofs.brief.are_all_paths.Given as goal

abbrev pub invariant-loop-place : goal.invariant-loop-place
invariant-loop-place l = AreAllPaths l.inst l.columns l.place
