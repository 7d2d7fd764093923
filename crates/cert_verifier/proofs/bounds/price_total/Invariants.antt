use Rattle.verifier_paths.specs.Kept.{forbidden_by}
use Rattle.cert_verifier.proofs.PriceTotals.{ArePriced}
use Rattle.cert_verifier.proofs.bounds.price_total.Given as goal

abbrev pub invariant-loop-place : goal.invariant-loop-place
invariant-loop-place l = ArePriced l.inst (forbidden_by l.forbidden) l.prices l.place l.total
