use Rattle.link_steps.specs.WorthValues.{IsLeastNetValue, AreFirstNetLoads}
use Rattle.cut_values.proofs.UsedRates.{used-lawful, used-worths}
use Rattle.cut_values.proofs.table.CutTable.link_value.Goals as goal

pub rated_value-requires-clause-there : goal.rated_value-requires-clause-there
rated_value-requires-clause-there c =
    rw (c.steps.ensures, c.prices_of_link-prices.ensures.there, c.as_slice-there.ensures, c.put_rates.ensures.there)
    (used-lawful c.args.self.now.problem c.args.self.now.cuts c.args.numbers.now c.args.link.0 c.cuts-cuts.ensures.list.are_cuts c.requires.numbers.lawful c.requires.link).0

pub rated_value-requires-clause-back : goal.rated_value-requires-clause-back
rated_value-requires-clause-back c =
    rw (c.steps.ensures, c.prices_of_link-prices.ensures.back, c.as_slice-back.ensures, c.put_rates.ensures.back)
    (used-lawful c.args.self.now.problem c.args.self.now.cuts c.args.numbers.now c.args.link.0 c.cuts-cuts.ensures.list.are_cuts c.requires.numbers.lawful c.requires.link).1

pub returns-clause-value : goal.returns-clause-value
returns-clause-value c =
    let is = rw (c.steps.ensures, c.prices_of_link-prices.ensures.there, c.prices_of_link-prices.ensures.back, c.as_slice-there.ensures, c.as_slice-back.ensures, c.put_rates.ensures.there, c.put_rates.ensures.back) at c.rated_value.ensures.value in
    used-worths c.args.self.now.problem c.args.self.now.cuts c.args.numbers.now c.args.link.0 (λ one other. IsLeastNetValue c.args.self.now.problem c.args.link.0 c.args.ranges one other c.rated_value.result.value) is

pub returns-clause-loads : goal.returns-clause-loads
returns-clause-loads c =
    let are = rw (c.steps.ensures, c.prices_of_link-prices.ensures.there, c.prices_of_link-prices.ensures.back, c.as_slice-there.ensures, c.as_slice-back.ensures, c.put_rates.ensures.there, c.put_rates.ensures.back) at c.rated_value.ensures.loads in
    used-worths c.args.self.now.problem c.args.self.now.cuts c.args.numbers.now c.args.link.0 (λ one other. AreFirstNetLoads c.args.self.now.problem c.args.link.0 c.args.ranges one other c.rated_value.result.value c.rated_value.result.load c.rated_value.result.back) are
