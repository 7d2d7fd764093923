use Rattle.std.proofs.Common.{◌≡◌, ◌+◌, ◌-◌, ◌++◌, take, replicate, vec_len, ◌∙◌, arith, rules}
use Rattle.arc_restrict.specs.Rows.{Rows, row_len}
use Rattle.arc_restrict.specs.contracts.restriction.Restriction.{the_view}
use Rattle.arc_restrict.proofs.RowsAdded.{resized, room_for_one, some_without_row, forbids-resized}
use Rattle.arc_restrict.proofs.restriction.Restriction.add_row.Goals as goal

pub unwrap-requires : goal.unwrap-requires
unwrap-requires c =
    let room = room_for_one (the_view c.self.inside) _ _ c.self.invariant c.args.demand.0 (rw (← c.self.view_is) at c.requires.demand) (rw (← c.self.view_is) at c.requires.wanting) in
    c.resize.ensures.succeeds (omega (arith, room, c.len.ensures, c.row_len.ensures))

pub overflow_add-self : goal.overflow_add-self
overflow_add-self c =
    let few = some_without_row (the_view c.self.inside) _ _ c.self.invariant c.args.demand.0 (rw (← c.self.view_is) at c.requires.demand) (rw (← c.self.view_is) at c.requires.wanting) in
    omega (arith, few, c.self.invariant.few_demands)

pub returns-clause-value : goal.returns-clause-value
returns-clause-value c =
    let rows : Rows = the_view c.self.inside in
    let len = vec_len c.self.inside.words in
    let more = row_len rows.arcs in
    let items : c.resize.new.self.items ≡ take (len + more) rows.words ++ replicate (len + more - len) 0 = rw (c.unwrap.ensures, c.len.ensures, c.row_len.ensures) at c.resize.ensures.items in
    let words : c.resize.new.self.items ≡ rows.words ++ replicate more 0 = items ∙ resized rows.words len more (search rules) in
    rw (← c.self.view_is) (forbids-resized rows _ _ c.self.invariant c.args.demand.0 (rw (← c.self.view_is) at c.requires.demand) (rw (← c.self.view_is) at c.requires.wanting) _ words)
