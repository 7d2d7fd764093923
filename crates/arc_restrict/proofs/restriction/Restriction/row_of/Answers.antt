use Rattle.std.proofs.Common.{◌<◌, length, arith}
use Rattle.std.proofs.lemmas.List.{get_or_read}
use Rattle.arc_restrict.specs.contracts.restriction.Restriction.{the_view}
use Rattle.arc_restrict.proofs.RowLaws.{row_of-le}
use Rattle.arc_restrict.proofs.restriction.Restriction.row_of.Goals as goal

pub returns-clause-number : goal.returns-clause-number
returns-clause-number c =
    let within : c.args.demand.0 < length c.self.inside.row_of.items = omega (arith, c.self.invariant.all_demands, rw (← c.self.view_is) at c.requires.demand) in
    rw (← c.self.view_is) (get_or_read c.self.inside.row_of.items _ _ within c.index.ensures 0)

pub returns-clause-within : goal.returns-clause-within
returns-clause-within c =
    let within : c.args.demand.0 < length c.self.inside.row_of.items = omega (arith, c.self.invariant.all_demands, rw (← c.self.view_is) at c.requires.demand) in
    omega (arith, get_or_read c.self.inside.row_of.items _ _ within c.index.ensures 0, row_of-le (the_view c.self.inside) _ _ c.self.invariant c.args.demand.0, c.self.invariant.few_demands)
