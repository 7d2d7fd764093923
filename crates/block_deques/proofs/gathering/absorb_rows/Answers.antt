use Rattle.std.proofs.Common.{◌≡◌, [], subst, rules}
use Rattle.std.proofs.lemmas.List.{nil_from_length}
use Rattle.block_deques.proofs.Gains.{RowsAbsorbed, no_row_absorbed, one_row_absorbed, all_gained, all_sums, rows_last}
use Rattle.block_deques.proofs.gathering.absorb_rows.Goals as goal

pub loop-row-init : goal.loop-row-init
loop-row-init c = no_row_absorbed _ _ c.requires.ruling c.requires.rows

pub absorb_row-requires-clause-row : goal.absorb_row-requires-clause-row
absorb_row-requires-clause-row c = (rows_last _ _ _ c.in-Some.row c.in-Some.ensures.items c.loop-row.invariant.rows_on).0

pub loop-row-preserved : goal.loop-row-preserved
loop-row-preserved c = one_row_absorbed _ _ _ _ _ _ c.in-Some.row c.in-Some.ensures.items c.absorb_row.ensures.count c.absorb_row.ensures.gained c.absorb_row.ensures.known c.loop-row.invariant

pub returns-clause-gained : goal.returns-clause-gained
returns-clause-gained c =
    let none : c.loop-row.rows.items ≡ [] = nil_from_length _ (search rules) in
    all_gained _ _ _ (subst (λ left. RowsAbsorbed c.args.owners.items c.loop-row.owners.items c.args.rows.items left) none c.loop-row.invariant)

pub returns-clause-known : goal.returns-clause-known
returns-clause-known c =
    let none : c.loop-row.rows.items ≡ [] = nil_from_length _ (search rules) in
    all_sums _ _ _ (subst (λ left. RowsAbsorbed c.args.owners.items c.loop-row.owners.items c.args.rows.items left) none c.loop-row.invariant)
