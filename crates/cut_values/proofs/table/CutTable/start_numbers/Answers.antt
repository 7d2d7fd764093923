use Rattle.cut_values.proofs.StartBounds.{starts-numbers, starts-lawful, starts-within}
use Rattle.std.proofs.Common.{length}
use Rattle.cut_values.proofs.table.CutTable.start_numbers.Goals as goal

pub returns-clause-start : goal.returns-clause-start
returns-clause-start c =
    let start = rw c.steps.ensures at c.in_ok-prices.ensures.value in
    rw (c.in_ok-numbers.ensures, c.cuts.ensures.value) (starts-numbers c.args.self.now.problem c.args.self.now.cuts c.in_ok-prices.prices start)

pub returns-clause-numbers : goal.returns-clause-numbers
returns-clause-numbers c =
    let start = rw c.steps.ensures at c.in_ok-prices.ensures.value in
    let within = rw c.steps.ensures at c.in_ok-prices.ensures.within in
    rw (c.in_ok-numbers.ensures, c.cuts.ensures.value)
    (starts-lawful c.args.self.now.problem c.args.self.now.cuts _ (starts-numbers c.args.self.now.problem c.args.self.now.cuts c.in_ok-prices.prices start)
    (starts-within c.args.self.now.problem c.in_ok-prices.prices (length c.args.self.now.cuts) within))
