use Rattle.std.proofs.Common.{◌≡◌, ◌++◌, drop}
use Rattle.plan_merge.specs.Growing.{put_in}
use Rattle.plan_merge.proofs.growing.put_in.Given as goal

abbrev pub invariant-loop-place : goal.invariant-loop-place
invariant-loop-place l = l.all.items ++ put_in (drop l.place l.records) (drop l.place l.chosen) l.rest ≡ put_in l.records l.chosen l.subtrees
