use Rattle.std.proofs.Common.{length, ap, ◌∙◌}
use Rattle.arc_restrict.specs.Restrictions.{Forbidden}
use Rattle.branch_tree.specs.Dealing.{goes_left, goes_right, picked}
use Rattle.branch_tree.proofs.SplitLaws.{split-at, tree_of-split}
use Rattle.branch_tree.proofs.branch.Branch.split.Goals as goal

pub returns-clause-ok : goal.returns-clause-ok
returns-clause-ok c =
    let found = c.in_ok-restriction in
    let leaving = c.leaving.result.now in
    split-at c.args.inst.now c.args.self.now c.args.node.0 c.args.demand c.args.first.now c.args.second.now c.requires.demand c.requires.first c.requires.second
    (found.at, found.one, found.other) found.ensures.part c.from_vec-left.result c.from_vec-right.result
    (record {
      leaving = leaving;
      are_leaving = c.leaving.ensures.value;
      left_is = c.from_vec-left.ensures ∙ c.in_ok-sides.ensures.left ∙ ap (λ (r : Forbidden). picked (goes_left r c.args.demand.0 found.one found.other leaving) leaving (length leaving)) found.ensures.restriction;
      right_is = c.from_vec-right.ensures ∙ c.in_ok-sides.ensures.right ∙ ap (λ (r : Forbidden). picked (goes_right r c.args.demand.0 found.one found.other leaving) leaving (length leaving)) found.ensures.restriction;
    })
    c.in_ok-divide.field-0 c.divide.new.self c.in_ok-divide.ensures.ok

pub returns-clause-of : goal.returns-clause-of
returns-clause-of c = tree_of-split c.args.inst.now c.args.self.now c.args.node.0 c.args.demand c.args.first.now c.args.second.now c.in_ok-divide.field-0 c.divide.new.self c.requires.of (returns-clause-ok c)
