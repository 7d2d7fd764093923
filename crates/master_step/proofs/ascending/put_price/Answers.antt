use Rattle.std.proofs.Common.{sym, subst}
use Rattle.cut_values.specs.Numbers.{AreNumbers}
use Rattle.master_step.proofs.MovedNumbers.{numbers_put}
use Rattle.master_step.proofs.ascending.put_price.Goals as goal

pub returns : goal.returns
returns c =
    subst (AreNumbers c.args.table.now.problem c.args.table.now.cuts) (sym c.put.ensures)
    (numbers_put c.args.table.now.problem c.args.table.now.cuts c.args.prices.now c.args.place c.args.price c.requires.prices c.requires.place c.requires.price)
