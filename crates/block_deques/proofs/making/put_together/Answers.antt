use Rattle.std.proofs.Common.{◌≡◌, ◌++◌, ◌∷◌, [], length, ap, sym, ◌∙◌, append_assoc, length-append, arith, slice_get, rules}
use Rattle.std.specs.Vec.Iter.{into_iter_items}
use Rattle.crossbeam_deque.specs.Handles.{worker_view}
use Rattle.block_deques.proofs.Makes.{next_worker, owns, counted, nothing_put, nothing_taken, none_numbered, rows_fewer, decks_more}
use Rattle.block_deques.proofs.making.put_together.Goals as goal

pub invariant_of-deck : goal.invariant_of-deck
invariant_of-deck c =
    let at = c.loop-worker in
    let ws = c.args.owners.items in
    let w = c.in-Some.worker in
    let here = next_worker ws at.yielded (into_iter_items c.next.new.self) (into_iter_items at.worker-iterator) w at.invariant.whole c.in-Some.ensures.steps.0 in
    let row = (rows_fewer ws at.rows.items c.pop.new.self.items c.in-Some-pop.reaches c.in-Some-pop.ensures.items at.invariant.rows).0 in
    let number : c.len-number.result ≡ length at.yielded = (let e : c.len-number.result ≡ length at.decks.items = search rules in e ∙ at.invariant.count) in
    let put = nothing_put ws (length at.yielded) _ w c.requires.parts here in
    let inside = counted ws (length at.yielded) w c.in-Some-pop.reaches.items c.requires.few here row in
    record {
      owned = owns ws (length at.yielded) w c.in-Some-pop.reaches.items c.requires.few c.requires.parts here row;
      counted = (omega arith, inside.1);
      listed = ap length put;
      numbered = none_numbered c.len-number.result (worker_view w).put put;
    }

pub loop-worker-preserved : goal.loop-worker-preserved
loop-worker-preserved c =
    let at = c.loop-worker in
    let ws = c.args.owners.items in
    let w = c.in-Some.worker in
    let steps : into_iter_items at.worker-iterator ≡ w ∷ into_iter_items c.next.new.self = c.in-Some.ensures.steps.0 in
    let here = next_worker ws at.yielded (into_iter_items c.next.new.self) (into_iter_items at.worker-iterator) w at.invariant.whole steps in
    let rows = rows_fewer ws at.rows.items c.pop.new.self.items c.in-Some-pop.reaches c.in-Some-pop.ensures.items at.invariant.rows in
    let short = ap length steps in
    record {
      whole = at.invariant.whole ∙ ap (λ rest. at.yielded ++ rest) steps ∙ sym (append_assoc at.yielded (w ∷ []) (into_iter_items c.next.new.self));
      rest = let was = at.invariant.rest in let gone = c.in-Some.ensures.steps.1 in omega arith;
      count = let was = at.invariant.count in let more = c.in-Ok.ensures.len in omega (arith, length-append at.yielded (w ∷ []));
      left = let was = at.invariant.left in let fewer = ap length c.in-Some-pop.ensures.items in omega (arith, length-append c.pop.new.self.items (c.in-Some-pop.reaches ∷ []));
      rows = rows.1;
      decks = decks_more ws at.decks.items c.push.new.self.items _ c.in-Ok.ensures.items at.invariant.decks (record {
        number = (let e : c.len-number.result ≡ length at.decks.items = search rules in e);
        worker = ap (slice_get ws) at.invariant.count ∙ here;
        row = rows.0;
        new = nothing_put ws (length at.yielded) _ w c.requires.parts here;
        none = nothing_taken ws (length at.yielded) _ w c.requires.parts here;
      });
    }
