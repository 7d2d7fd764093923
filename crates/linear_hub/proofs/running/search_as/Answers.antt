use Rattle.std.proofs.Common.{rules, ◌≡◌, length, All, sym, subst}
use lib.ListN.{drop}
use Rattle.linear_hub.proofs.Callers.{taken}
use Rattle.linear_hub.proofs.WorkerLists.{still_one_making}
use Rattle.linear_hub.proofs.running.search_as.Goals as goal

pub finish-requires-clause-of : goal.finish-requires-clause-of
finish-requires-clause-of g c =
    let all = c.work_all.new.workers in
    let rest = drop (length all) c.in_ok-hub.crew.workers.items in
    let long : c.in_ok-hub.crew.workers.len ≡ length all = search rules in
    subst (All (λ w. w.seat.pass.table_id ≡ c.in_ok-hub.hub.turns.table.shared.table_id)) (sym (taken c.in_ok-hub.crew.workers.len all rest long)) c.work_all.ensures.of

pub finish-requires-clause-decks : goal.finish-requires-clause-decks
finish-requires-clause-decks g c =
    let all = c.work_all.new.workers in
    let rest = drop (length all) c.in_ok-hub.crew.workers.items in
    let long : c.in_ok-hub.crew.workers.len ≡ length all = search rules in
    let same : length all ≡ length c.as_mut_slice.result.now = search rules in
    still_one_making (λ w. w.deck) c.in_ok-hub.crew.workers.len c.in_ok-hub.crew.workers.items c.as_mut_slice.result.now all rest long c.as_mut_slice.ensures.value same c.work_all.ensures.decks c.in_ok-hub.ensures.decks
