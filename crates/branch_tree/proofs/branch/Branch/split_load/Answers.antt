use Rattle.std.proofs.Common.{rules}
use Rattle.branch_tree.proofs.SplitLaws.{tree_of-load_split}
use Rattle.branch_tree.proofs.branch.Branch.split_load.Goals as goal

pub returns-clause-ok : goal.returns-clause-ok
returns-clause-ok c = search rules

pub returns-clause-of : goal.returns-clause-of
returns-clause-of c = tree_of-load_split c.args.inst.now c.args.self.now c.args.node.0 c.args.split c.in_ok-divide.field-0 c.divide.new.self c.lawful.ensures.total c.requires.of (returns-clause-ok c)
