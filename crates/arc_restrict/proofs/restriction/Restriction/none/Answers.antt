use Rattle.std.proofs.Common.{rules}
use Rattle.arc_restrict.proofs.RowLaws.{forbids-no_rows}
use Rattle.arc_restrict.proofs.restriction.Restriction.none.Goals as goal

pub returns-clause-empty : goal.returns-clause-empty
returns-clause-empty c = forbids-no_rows _ _ (c.in_ok-row_of.ensures.items_if_clones_equal (λ y is. search rules))
