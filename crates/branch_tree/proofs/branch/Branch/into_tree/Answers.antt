use Rattle.std.proofs.Common.{◌≡◌, true, sym, ap, subst, ◌∙◌}
use Rattle.std.proofs.lemmas.Bool.{false≢true}
use Rattle.proof_tree.specs.Shapes.{are_trees}
use Rattle.proof_tree.specs.RatedTrees.{IsRatedTree}
use Rattle.branch_tree.specs.Records.{records_of, AreNodes}
use Rattle.branch_tree.proofs.ShapeLaws.{records_of-is_tree}
use Rattle.branch_tree.proofs.ValidLaws.{records_of-valid}
use Rattle.branch_tree.proofs.branch.Branch.into_tree.Goals as goal

pub unreachable-requires : goal.unreachable-requires
unreachable-requires c =
    let whole : are_trees 1 c.in_ok-records.records.items ≡ true =
    ap (are_trees 1) (c.in_ok-records.ensures ∙ ap records_of c.as_slice.ensures.value) ∙ records_of-is_tree c.self.inside.nodes.items c.self.invariant in
    false≢true (c.in-Err.ensures.ok.1 whole)

pub returns-clause-valid : goal.returns-clause-valid
returns-clause-valid c = λ p cuts cost of shown.
    subst (IsRatedTree p cuts cost)
    (sym (c.in-Ok.ensures.value ∙ c.in_ok-records.ensures ∙ ap records_of (c.as_slice.ensures.value ∙ c.self.view_is)))
    (records_of-valid p cuts cost c.args.self (subst AreNodes c.self.view_is c.self.invariant) of shown)
