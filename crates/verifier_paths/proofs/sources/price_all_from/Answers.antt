use Rattle.std.proofs.Common.{◌≡◌, ◌<◌, ◌+◌, length, subst, sym, arith, rules}
use Rattle.std.proofs.Math.ListN.{set}
use Rattle.verifier_paths.specs.Kept.{forbidden_by}
use Rattle.verifier_paths.specs.Sources.{IsFrom}
use Rattle.verifier_paths.proofs.SourcePrices.{HasPricedBelow, priced-over, priced-more}
use Rattle.verifier_paths.proofs.sources.price_all_from.Goals as goal
use Rattle.verifier_paths.proofs.sources.price_all_from.Goals.{then-eq+in_ok-price, else-eq}

pub loop-place-preserved : goal.loop-place-preserved
loop-place-preserved c =
    let p = c.args.inst.now in
    let r = forbidden_by c.args.forbidden.now in
    let prices = c.args.prices.now in
    let s = c.args.source.0 in
    let n = c.loop-place.place in
    let before = c.args.found.now.items in
    let found = c.loop-place.found.items in
    elim c.if-eq.branch [
      | then-eq+in_ok-price w ↦ (
          let is : c.if-eq.found.items ≡ set found n w.in_ok-price.price = search rules in
          let within : n < length found = omega (arith, c.loop-place.invariant.count, c.requires.found) in
          subst (HasPricedBelow p r prices s (n + 1) before) (sym is) (priced-more p r prices s n before found w.in_ok-price.price within w.in_ok-price.ensures c.loop-place.invariant))
      | else-eq w ↦ (
          let is : c.if-eq.found.items ≡ found = search rules in
          let other : IsFrom p s n → ⊥ = search rules in
          subst (HasPricedBelow p r prices s (n + 1) before) (sym is) (priced-over p r prices s n before found other c.loop-place.invariant))
    ]
