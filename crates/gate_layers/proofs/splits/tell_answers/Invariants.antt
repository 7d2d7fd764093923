use Rattle.branch_tree.specs.Branches.{IsTreeOf}
use Rattle.gate_layers.proofs.splits.tell_answers.Given as goal

abbrev pub invariant-loop-node : goal.invariant-loop-node
invariant-loop-node l = IsTreeOf l.inst l.branch
