use Rattle.master_step.specs.Choosing.{all_of, is_allowed, IsLeastOf}
use Rattle.master_step.proofs.source.Source.least.Given as goal

abbrev pub invariant-loop-place : goal.invariant-loop-place
invariant-loop-place l = IsLeastOf l.inst l.prices (is_allowed l.self l.demand.0) (all_of l.self l.demand.0) l.place l.least
