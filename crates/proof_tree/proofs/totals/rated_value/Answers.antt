use Rattle.std.proofs.Common.{◌∙◌, refl}
use Rattle.proof_tree.proofs.PlaceRates.{link_rates-lawful}
use Rattle.proof_tree.proofs.RatedTotals.{place_rates-read}
use Rattle.proof_tree.proofs.totals.rated_value.Goals as goal

pub rated_value-found-requires-clause-there : goal.rated_value-found-requires-clause-there
rated_value-found-requires-clause-there c =
    let n = c.args.numbers.now in
    let lawful = link_rates-lawful n.table.now c.args.link.0 n.cuts.now n.prices.now n.rates.now c.requires.fit.are_cuts c.requires.fit.are_rated c.requires.link in
    place_rates-read _ _ _ _ _ _ _ refl (rw c.instance-inst.ensures.inst at c.of_link-prices.ensures.there) (c.deref.ensures.value ∙ c.in_ok-put_rates.ensures.there) lawful.there

pub rated_value-found-requires-clause-back : goal.rated_value-found-requires-clause-back
rated_value-found-requires-clause-back c =
    let n = c.args.numbers.now in
    let lawful = link_rates-lawful n.table.now c.args.link.0 n.cuts.now n.prices.now n.rates.now c.requires.fit.are_cuts c.requires.fit.are_rated c.requires.link in
    place_rates-read _ _ _ _ _ _ _ refl (rw c.instance-inst.ensures.inst at c.of_link-prices.ensures.back) (c.deref-2.ensures.value ∙ c.in_ok-put_rates.ensures.back) lawful.other
