use Rattle.std.proofs.Common.{◌<◌}
use Rattle.incumbent.specs.declared.draws.TheConstants.{CIRCLE}
use Rattle.incumbent.proofs.draws.Draws.new.Given as goal

abbrev pub invariant-loop-path : goal.invariant-loop-path
invariant-loop-path l = l.state < CIRCLE
