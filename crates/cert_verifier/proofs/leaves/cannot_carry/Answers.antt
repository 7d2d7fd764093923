use Rattle.std.proofs.Common.{◌≡◌, true, false, refl}
use Rattle.cert_verifier.proofs.CostTotals.{there-most, back-most}
use Rattle.cert_verifier.proofs.leaves.cannot_carry.Goals as goal

pub cost_of_link-requires-clause-there : goal.cost_of_link-requires-clause-there
cost_of_link-requires-clause-there c = rw c.of_link-carried.ensures.there (there-most c.args.at.now.inst.now c.args.loads.now c.args.link.0 c.lawful.ensures c.requires.link c.requires.loads)

pub cost_of_link-requires-clause-back : goal.cost_of_link-requires-clause-back
cost_of_link-requires-clause-back c = rw c.of_link-carried.ensures.back (back-most c.args.at.now.inst.now c.args.loads.now c.args.link.0 c.lawful.ensures c.requires.link c.requires.loads)

pub returns-in-Some : goal.returns-in-Some
returns-in-Some c =
    let least = rw (c.of_link-carried.ensures.there, c.of_link-carried.ensures.back) at c.in-Some.ensures.cost.is_least in
    (λ no. absurd (let bad : false ≡ true = no in cc), λ cannot. absurd (cannot least.counts least.carries))

pub returns-in-None : goal.returns-in-None
returns-in-None c = (λ yes. rw (c.of_link-carried.ensures.there, c.of_link-carried.ensures.back) at c.in-None.ensures.none, λ cannot. refl)
