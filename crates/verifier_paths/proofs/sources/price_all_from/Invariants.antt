use Rattle.verifier_paths.specs.Kept.{forbidden_by}
use Rattle.verifier_paths.proofs.SourcePrices.{HasPricedBelow}
use Rattle.verifier_paths.proofs.sources.price_all_from.Given as goal

-- the demands before this one have been priced
abbrev pub invariant-loop-place : goal.invariant-loop-place
invariant-loop-place l = HasPricedBelow l.inst (forbidden_by l.forbidden) l.prices l.source.0 l.place l.fn.found.items l.found.items
