use Rattle.std.proofs.Common.{ap, ◌∙◌}
use Rattle.cut_values.specs.Crossings.{rates_on}
use Rattle.cut_values.proofs.CrossingRows.{rates_on-crossing}
use Rattle.cut_values.proofs.table.CutTable.crossing_rate.Goals as goal

pub returns-clause-value : goal.returns-clause-value
returns-clause-value c =
    c.rates_on.ensures.value ∙ (ap (rates_on c.args.rates.now) c.crossings.ensures.value ∙ rates_on-crossing c.args.self.now.problem c.args.self.now.cuts c.args.rates.now c.args.place)
