use Rattle.std.proofs.Common.{◌+◌, ◌∙◌, List, ◌++◌, drop, reverse, length, ap, arith, get_or, false}
use Rattle.std.specs.Prelude.{◌&&◌}
use Rattle.proof_tree.specs.Plans.{is_open}
use Rattle.branch_tree.specs.declared.node.Limit.{Limit}
use Rattle.plan_merge.specs.Starts.{start_if, starts_of}
use Rattle.plan_merge.specs.Waiting.{children_after}
use Rattle.plan_merge.proofs.WaitingLaws.{starting-read, starting-next, starting-none, drop-get}
use Rattle.plan_merge.proofs.starting.starts_of.Goals as goal

pub returns-then-not-branch : goal.returns-then-not-branch
returns-then-not-branch c =
    let xs = c.args.records.now in
    let chosen = c.args.chosen.now in
    let place = c.loop-place.place in
    let x = get_or xs place c.index-records-place.result in
    let one = get_or chosen place false in
    let path = c.loop-place.path.items in
    starting-none c.note_start.new.starts.items path (reverse c.await_children.new.waiting.items) (drop (place + 1) xs) (drop (place + 1) chosen) (starts_of xs chosen)
    (starting-read xs chosen place c.loop-place.starts.items c.note_start.new.starts.items path (reverse c.loop-place.waiting.items) (reverse c.await_children.new.waiting.items) x one c.loop-place.invariant
    (drop-get xs place c.index-records-place.result (omega (arith, c.loop-place-test.true))) (drop-get chosen place false (omega (arith, c.loop-place-test.true, c.requires.chosen)))
    (c.in_ok-note_start.ensures ∙ ap (λ (ls : List Limit). c.loop-place.starts.items ++ start_if (is_open x.node && one) (reverse ls) x.node) c.deref.ensures.value)
    (c.in_ok-await_children.ensures ∙ ap (λ (ls : List Limit). children_after (length ls) x.node ++ reverse c.loop-place.waiting.items) c.as_slice.ensures.value)).0
    (c.in_ok-goes_on.ensures.none c.if-not-branch.true)

pub loop-place-preserved : goal.loop-place-preserved
loop-place-preserved c =
    let xs = c.args.records.now in
    let chosen = c.args.chosen.now in
    let place = c.loop-place.place in
    let x = get_or xs place c.index-records-place.result in
    let one = get_or chosen place false in
    let path = c.loop-place.path.items in
    starting-next xs chosen (place + 1) c.note_start.new.starts.items path c.goes_on.new.path.items c.await_children.new.waiting.items c.goes_on.new.waiting.items
    (starting-read xs chosen place c.loop-place.starts.items c.note_start.new.starts.items path (reverse c.loop-place.waiting.items) (reverse c.await_children.new.waiting.items) x one c.loop-place.invariant
    (drop-get xs place c.index-records-place.result (omega (arith, c.loop-place-test.true))) (drop-get chosen place false (omega (arith, c.loop-place-test.true, c.requires.chosen)))
    (c.in_ok-note_start.ensures ∙ ap (λ (ls : List Limit). c.loop-place.starts.items ++ start_if (is_open x.node && one) (reverse ls) x.node) c.deref.ensures.value)
    (c.in_ok-await_children.ensures ∙ ap (λ (ls : List Limit). children_after (length ls) x.node ++ reverse c.loop-place.waiting.items) c.as_slice.ensures.value))
    (c.in_ok-goes_on.ensures.next c.if-not-branch.false)
