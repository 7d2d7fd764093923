use Rattle.cert_verifier.specs.Walks.{region_of_marks}
use Rattle.cert_verifier.proofs.LeafFindings.{far_no_limit, far_decided}
use Rattle.cert_verifier.proofs.leaves.check_far.Goals as goal

pub returns-in_default : goal.returns-in_default
returns-in_default c = λ differs.
    let at = c.args.at.now in
    rw c.broken.ensures (far_no_limit at.inst.now at.cuts.now at.cost (region_of_marks at.forbidden.now at.ranges.now) at.index c.args.demand c.in_default.ensures.none)

pub returns : goal.returns
returns c = λ differs.
    let at = c.args.at.now in
    far_decided at.inst.now at.cuts.now at.cost (region_of_marks at.forbidden.now at.ranges.now) at.index c.args.demand c.in-Some.limit c.in_ok-fewest.fewest c.is_past.result _ c.in-Some.ensures.demand c.in-Some.ensures.limit
    c.in_ok-fewest.ensures c.is_past.ensures c.holds_or.ensures.ok c.holds_or.ensures.broken
