use Rattle.std.proofs.Common.{◌<◌}
use Rattle.incumbent.specs.declared.draws.TheConstants.{CIRCLE}
use Rattle.incumbent.proofs.draws.stirred_by.Given as goal

abbrev pub invariant-loop-arc : goal.invariant-loop-arc
invariant-loop-arc l = l.state < CIRCLE
