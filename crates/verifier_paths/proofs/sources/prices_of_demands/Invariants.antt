use Rattle.verifier_paths.specs.Kept.{forbidden_by}
use Rattle.verifier_paths.proofs.SourcePrices.{HasPricedTo}
use Rattle.verifier_paths.proofs.sources.prices_of_demands.Given as goal

-- the demands of the nodes before this one have been priced
abbrev pub invariant-loop-source : goal.invariant-loop-source
invariant-loop-source l = HasPricedTo l.inst (forbidden_by l.forbidden) l.prices l.source l.found.items
