use Rattle.std.proofs.Common.{◌+◌, sym, subst}
use Rattle.arc_restrict.specs.Rows.{forbids}
use Rattle.column_pool.specs.Columns.{Columns}
use Rattle.search_view.specs.Valuing.{ArePermittedLists}
use Rattle.search_view.proofs.Gatherings.{no_lists, next_list}
use Rattle.search_view.proofs.view.gathering.permitted_lists.Goals as goal

pub loop-place-init : goal.loop-place-init
loop-place-init c =
    subst (λ (lists : Columns). ArePermittedLists 0 (forbids c.args.restriction.now) c.args.columns.now lists) (sym c.new-lists.ensures.items)
    (no_lists (forbids c.args.restriction.now) c.args.columns.now)

pub loop-place-preserved : goal.loop-place-preserved
loop-place-preserved c =
    subst (λ (lists : Columns). ArePermittedLists (c.loop-place.place + 1) (forbids c.args.restriction.now) c.args.columns.now lists) (sym c.in_ok-push.ensures.items)
    (next_list c.loop-place.place (forbids c.args.restriction.now) c.args.columns.now c.loop-place.lists.items c.in_ok-permitted.permitted c.loop-place.invariant c.in_ok-permitted.ensures)
