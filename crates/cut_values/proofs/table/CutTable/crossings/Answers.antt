use Rattle.std.proofs.Common.{length, ap, subst, sym, List, arith}
use Rattle.cut_values.specs.declared.crossing.Crossing.{Crossing}
use Rattle.cut_values.specs.Crossings.{AreNumbered}
use Rattle.cut_values.proofs.CrossingRows.{crossings-few, crossings-numbered}
use Rattle.cut_values.proofs.table.CutTable.crossings.Goals as goal

pub returns-clause-few : goal.returns-clause-few
returns-clause-few c =
    omega (arith, ap length c.row_of.ensures, crossings-few c.args.self.now.problem c.args.self.now.cuts c.args.place (length c.args.self.now.cuts), c.cuts-cuts.ensures.list.few)

pub returns-clause-numbered : goal.returns-clause-numbered
returns-clause-numbered c =
    subst (λ (row : List Crossing). AreNumbered (length c.args.self.now.cuts) row) (sym c.row_of.ensures) (crossings-numbered c.args.self.now.problem c.args.self.now.cuts c.args.place (length c.args.self.now.cuts))
