use Rattle.std.proofs.Common.{sym, subst}
use Rattle.cut_values.specs.Numbers.{AreNumbers}
use Rattle.master_step.proofs.ascending.moved_prices.Goals.{then-top_load-gt0+in_ok-move_place, else-top_load-gt0}
use Rattle.master_step.proofs.ascending.moved_prices.Goals as goal

pub loop-place-preserved : goal.loop-place-preserved
loop-place-preserved c = elim c.if-top_load-gt0.branch [
  | then-top_load-gt0+in_ok-move_place w ↦ subst (AreNumbers c.args.node.now.table.now.problem c.args.node.now.table.now.cuts) (sym w.moved-is) w.move_place.ensures
  | else-top_load-gt0 w ↦ subst (AreNumbers c.args.node.now.table.now.problem c.args.node.now.table.now.cuts) (sym w.moved-is) c.loop-place.invariant
]
