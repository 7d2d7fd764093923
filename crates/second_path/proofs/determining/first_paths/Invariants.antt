use Rattle.arc_restrict.specs.Rows.{forbids}
use Rattle.second_path.specs.Searching.{HasRoom, ArePaths}
use Rattle.second_path.proofs.determining.first_paths.Given as goal

-- there is a path of each demand before this one
abbrev pub invariant-loop-place : goal.invariant-loop-place
invariant-loop-place l = HasRoom l.inst.nodes l.search × ArePaths l.inst (forbids l.r) l.place l.paths.items
