use Rattle.std.proofs.Common.{ap, sym, ◌∙◌, map, drop, length}
use Rattle.std.proofs.lemmas.List.{length-replicate}
use Rattle.dual_versions.specs.declared.table.Table.{Table}
use Rattle.dual_versions.specs.Rows.{pair_of, blank}
use Rattle.dual_versions.specs.Views.{known_by}
use Rattle.dual_versions.proofs.Moves.{begins}
use Rattle.dual_versions.proofs.Shows.{made, made_tables}
use Rattle.dual_versions.proofs.making.board.Goals as goal

pub new-requires-clause-alike : goal.new-requires-clause-alike
new-requires-clause-alike g c = λ i. ((c.in_ok-first.ensures.number ∙ sym c.in_ok-second.ensures.number) i, (c.in_ok-first.ensures.rows ∙ sym c.in_ok-second.ensures.rows) i)

pub new-requires-clause-rule : goal.new-requires-clause-rule
new-requires-clause-rule g c = begins c.in_ok-first.first c.in_ok-first.ensures.number

pub invariant_of-writer : goal.invariant_of-writer
invariant_of-writer g c =
    let w = c.in_ok-writer.writer in
    let e = c.in_ok-writer.ensures in
    made c.args.prices c.args.slots _ (known_by w.desk.place) w.desk.shown.value (drop w.behind w.log.items) (ap (λ (t : Table). t.number) e.0 ∙ c.in_ok-first.ensures.number) (ap (λ (t : Table). t.rows.items) e.0 ∙ c.in_ok-first.ensures.rows) e.2 e.1

pub returns-in-Ok-clause-slots : goal.returns-in-Ok-clause-slots
returns-in-Ok-clause-slots g c =
    let rows = ap (λ (t : Table). t.rows.items) c.in_ok-writer.ensures.0 ∙ c.in_ok-first.ensures.rows in
    ap length rows ∙ length-replicate c.args.slots (blank _ c.args.prices)

pub returns-in-Ok-clause-tables : goal.returns-in-Ok-clause-tables
returns-in-Ok-clause-tables g c =
    let w = c.in_ok-writer.writer in
    let e = c.in_ok-writer.ensures in
    let rows = ap (λ (t : Table). t.rows.items) e.0 ∙ c.in_ok-first.ensures.rows in
    made_tables c.args.prices c.args.slots _ (known_by w.desk.place) w.desk.shown.value rows e.2

pub returns-in-Ok-clause-none_pending : goal.returns-in-Ok-clause-none_pending
returns-in-Ok-clause-none_pending g c = ap (map pair_of) c.in_ok-writer.ensures.1
