use Rattle.std.proofs.Common.{sym, subst, ◌∙◌, ◌+◌, ◌-◌, length, ◌≡◌, arith, rules}
use Rattle.block_deques.specs.Hands.{all_parts}
use Rattle.block_deques.specs.Making.{AreFresh, AreRows}
use Rattle.block_deques.proofs.Makes.{poorer, still_rich, rows_move, rows_more}
use Rattle.block_deques.proofs.making.new_rows.Goals as goal

pub new_row-requires : goal.new_row-requires
new_row-requires c =
    let few = c.requires.few in
    still_rich (all_parts - c.loop.counter) c.loop.owners.items (omega arith) c.loop.invariant.fresh

pub loop-preserved : goal.loop-preserved
loop-preserved c =
    let at = c.loop in
    let same : length c.new_row.new.owners.items ≡ length at.owners.items = search rules in
    let gave = c.in_ok-row.ensures.given in
    let one_less : all_parts - at.counter - 1 ≡ all_parts - (at.counter + 1) = omega arith in
    record {
      same_length = same ∙ at.invariant.same_length;
      count = search rules;
      fresh = subst (λ parts. AreFresh parts c.new_row.new.owners.items) one_less (poorer (all_parts - at.counter) at.owners.items c.new_row.new.owners.items same at.invariant.fresh gave);
      rows = subst (AreRows c.new_row.new.owners.items) (sym c.in-Ok.ensures.items)
          (rows_more c.new_row.new.owners.items at.rows.items c.in_ok-row.row (rows_move at.owners.items c.new_row.new.owners.items at.rows.items same gave at.invariant.rows) c.in_ok-row.ensures.row);
    }
