use Rattle.std.proofs.Common.{rules}
use Rattle.cert_verifier.proofs.CostTotals.{costed_none, costed_next, there-most, back-most}
use Rattle.cert_verifier.proofs.leaves.cost_of_paths.Goals as goal

pub loop-place-init : goal.loop-place-init
loop-place-init c = costed_none c.args.inst.now c.args.loads.now

pub cost_of_link-requires-clause-there : goal.cost_of_link-requires-clause-there
cost_of_link-requires-clause-there c = rw c.of_link.ensures.there (there-most c.args.inst.now c.args.loads.now c.loop-place.place c.links-place-end.ensures.lawful (search rules) c.requires.loads)

pub cost_of_link-requires-clause-back : goal.cost_of_link-requires-clause-back
cost_of_link-requires-clause-back c = rw c.of_link.ensures.back (back-most c.args.inst.now c.args.loads.now c.loop-place.place c.links-place-end.ensures.lawful (search rules) c.requires.loads)

pub loop-place-preserved : goal.loop-place-preserved
loop-place-preserved c =
    let cost = rw (c.of_link.ensures.there, c.of_link.ensures.back) at c.in-Some.ensures.cost in
    costed_next c.args.inst.now c.args.loads.now c.loop-place.place c.loop-place.total c.in-Some.cost c.loop-place.invariant cost c.in-Some.ensures.within
