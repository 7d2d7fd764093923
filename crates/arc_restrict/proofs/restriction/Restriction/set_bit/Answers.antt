use Rattle.std.proofs.Common.{◌-◌, ℕ, slice_index, ap, sym, ◌∙◌}
use Rattle.arc_restrict.specs.Rows.{Rows, place_of}
use Rattle.arc_restrict.specs.contracts.restriction.Restriction.{the_view}
use Rattle.arc_restrict.proofs.RowLaws.{forbids-written}
use Rattle.arc_restrict.proofs.restriction.Restriction.set_bit.Goals as goal

pub returns-clause-value : goal.returns-clause-value
returns-clause-value c =
    let rows : Rows = the_view c.self.inside in
    rw (← c.self.view_is) (forbids-written rows _ _ _ _ _ _ c.self.invariant (rw (← c.self.view_is) at c.requires.has_row) (rw (← c.self.view_is) at c.requires.arc)
    (c.place_of-place.ensures ∙ ap (λ (n : ℕ). place_of rows.arcs (n - 1) c.args.arc) (c.row_of.ensures.number ∙ ap (λ (rows : Rows). slice_index rows.row_of c.args.demand.0) (sym c.self.view_is))) c.index_mut.ensures.value)
