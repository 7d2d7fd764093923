use Rattle.cert_verifier.specs.Walks.{region_of_marks}
use Rattle.cert_verifier.proofs.LeafFindings.{open_unbounded}
use Rattle.cert_verifier.proofs.leaves.open_bound.Goals as goal

pub returns-in-Open-clause-none : goal.returns-in-Open-clause-none
returns-in-Open-clause-none c = rw c.in-Open.is (open_unbounded c.args.at.now.inst.now c.args.at.now.cuts.now (region_of_marks c.args.at.now.forbidden.now c.args.at.now.ranges.now) c.in-Open.numbers c.bound_at.result c.bound_at.ensures.none)
