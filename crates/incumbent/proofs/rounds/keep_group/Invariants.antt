use Rattle.completions.specs.Completions.{ArePaths}
use Rattle.incumbent.proofs.rounds.keep_group.Given as goal

abbrev pub invariant-loop-demand : goal.invariant-loop-demand
invariant-loop-demand l = ArePaths l.inst l.kept.items
