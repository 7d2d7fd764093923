use Rattle.std.proofs.Common.{◌≡◌, Some}
use Rattle.plan_base.specs.declared.ids.NodeId.{NodeId as AnyNode}
use Rattle.least_path.specs.declared.label.Label.{Label as AnyLabel}
use Rattle.least_path.specs.Paths.{Weights}
use Rattle.least_path.specs.Labels.{label_at}
use Rattle.least_path.specs.Trees.{IsTree}
use Rattle.least_path.proofs.TreeLaws.{IsReadTo}
use Rattle.least_path.proofs.tree.Tree.way.Given as goal

abbrev pub invariant-loop : goal.invariant-loop
invariant-loop l = (ws : Weights) (s : AnyNode) (last : AnyLabel) → IsTree l.inst ws s l.self → label_at l.self l.fn.node.0 ≡ Some last → IsReadTo l.inst l.self last l.here l.arcs.items l.counter
