use Rattle.std.proofs.Common.{◌≡◌, ◌≤◌, slice_index, arith}
use Rattle.plan_base.specs.declared.limits.TheConstants.{MAX_PRICED_LOAD}
use Rattle.plan_base.specs.Facts.{total_load}
use Rattle.proof_tree.proofs.PlaceRates.{limit-small}
use Rattle.cut_values.proofs.MovedPrices.{here-within}
use Rattle.master_step.specs.Trials.{apart}
use Rattle.master_step.proofs.SmallPrices.{product-within}
use Rattle.master_step.proofs.gaps.trial_price.Goals as goal

pub moved-requires-clause-product : goal.moved-requires-clause-product
moved-requires-clause-product c =
    let gap : apart c.args.columns c.args.value ≤ total_load c.args.inst.now = omega (arith, c.requires.columns, c.requires.value) in
    product-within c.args.inst.now (apart c.args.columns c.args.value) c.args.greatest gap c.requires.greatest

pub moved-requires-clause-price : goal.moved-requires-clause-price
moved-requires-clause-price c =
    let p = c.args.inst.now in
    let here = here-within p c.args.table.now.cuts c.args.prices.now c.args.place c.requires.numbers c.requires.place in
    rw c.as_slice.ensures.value (omega (arith, here.few, limit-small p))
