use Rattle.std.proofs.Common.{List, [], ◌∷◌, sym, subst}
use Rattle.branch_tree.specs.declared.node.Limit.{Limit}
use Rattle.branch_tree.specs.declared.node.Fate.TheVariants.{Undone}
use Rattle.branch_tree.specs.Branches.{IsTreeOf}
use Rattle.branch_tree.proofs.BranchLaws.{tree_of-root}
use Rattle.branch_tree.proofs.branch.Branch.new.Goals as goal

pub returns-clause-of : goal.returns-clause-of
returns-clause-of c = λ p.
    subst (IsTreeOf p) (sym c.in_ok-vec.ensures.items)
    (subst (λ (limits : List Limit). IsTreeOf p (record { limits = limits; prices = c.args.root; fate = Undone } ∷ [])) (sym c.new.ensures) (tree_of-root p c.args.root))
