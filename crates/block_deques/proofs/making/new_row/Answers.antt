use Rattle.std.proofs.Common.{sym, subst, set, ◌+◌, length, ◌<◌, rules}
use Rattle.block_deques.proofs.Places.{item_there}
use Rattle.block_deques.proofs.Makes.{Halfway, halfway_at_first, one_more_given, all_given, row_given}
use Rattle.block_deques.proofs.making.new_row.Goals as goal

pub loop-place-init : goal.loop-place-init
loop-place-init c = subst (λ rs. Halfway c.args.owners.now.items c.args.owners.now.items rs 0) (sym c.new-row.ensures.items) (halfway_at_first c.args.owners.now.items)

pub loop-place-preserved : goal.loop-place-preserved
loop-place-preserved c =
    let at = c.loop-place in
    let inside : at.place < length at.owners.items = search rules in
    let old = c.index_mut.result.now in
    subst (λ rs. Halfway c.args.owners.now.items (set at.owners.items at.place c.new_reach.new.owner) rs (at.place + 1)) (sym c.in-Ok.ensures.items)
    (one_more_given c.args.owners.now.items at.owners.items at.row.items at.place old c.new_reach.new.owner c.in_ok-reach.reach
    (item_there at.owners.items at.place old inside (search rules))
    c.in_ok-reach.ensures.given c.in_ok-reach.ensures.reach.0 c.in_ok-reach.ensures.reach.1 at.invariant)

pub returns-clause-given : goal.returns-clause-given
returns-clause-given c = all_given _ _ c.loop-place.row.items c.loop-place.place (search rules) c.loop-place.invariant

pub returns-clause-row : goal.returns-clause-row
returns-clause-row c = row_given _ _ _ c.loop-place.place (search rules) (search rules) c.loop-place.invariant
