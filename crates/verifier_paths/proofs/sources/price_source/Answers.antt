use Rattle.std.proofs.Common.{List, Option, ℕ, subst, sym, ◌∙◌}
use Rattle.verifier_paths.specs.Sources.{AreUnrestricted}
use Rattle.verifier_paths.proofs.SourcePrices.{labels-same_source}
use Rattle.verifier_paths.proofs.sources.price_source.Goals as goal

pub price_all_from-requires-clause-labels : goal.price_all_from-requires-clause-labels
price_all_from-requires-clause-labels c = λ k from.
    let p = c.args.inst.now in
    let prices = c.args.prices.now in
    let lead = (rw c.in-Some.is at c.demand_from.ensures).1 in
    let labelled = subst (λ (xs : List (Option ℕ)). AreUnrestricted p prices c.in-Some.demand.0 xs) (sym c.deref.ensures.value) c.in_ok-labels-in-Some.ensures in
    labels-same_source p prices c.in-Some.demand.0 k c.deref.result.now (lead ∙ sym from) labelled
