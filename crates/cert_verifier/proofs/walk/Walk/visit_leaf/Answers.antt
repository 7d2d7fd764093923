use Rattle.std.proofs.Common.{sym, subst, ◌++◌}
use Rattle.cert_verifier.specs.Bounds.{IsLeastBoundIn}
use Rattle.proof_tree.specs.Trees.{leaf_here}
use Rattle.cert_verifier.specs.Walks.{region_of_marks}
use Rattle.cert_verifier.proofs.LeafLaws.{leaf_found_none-open}
use Rattle.cert_verifier.proofs.LeastLaws.{least_more}
use Rattle.cert_verifier.proofs.walk.Walk.visit_leaf.Goals as goal

pub open_bound-requires-clause-lawful : goal.open_bound-requires-clause-lawful
open_bound-requires-clause-lawful c = leaf_found_none-open _ _ _ _ _ _ (c.in_ok-check_leaf.ensures (λ e. cc))

pub returns-clause-least : goal.returns-clause-least
returns-clause-least c = λ leaves least.
    let g = region_of_marks c.args.self.now.forbidden c.args.self.now.ranges in
    subst (λ n. IsLeastBoundIn c.args.against.now.inst.now c.args.against.now.plan.now.cuts (leaves ++ leaf_here g n) c.lower-self.result) (sym c.requires.node)
    (least_more c.args.against.now.inst.now c.args.against.now.plan.now.cuts leaves (record { region = g; evidence = c.args.evidence.now }) c.args.self.now.least c.in_ok-bound.bound c.lower-self.result
    c.in_ok-bound.ensures.bound c.in_ok-bound.ensures.none c.lower-self.ensures least)
