use Rattle.std.proofs.Common.{◌∷◌, [], length, sym, ap, ◌∙◌, append_assoc, refl, arith}
use Rattle.std.specs.Vec.Iter.{into_iter_items}
use Rattle.std.proofs.lemmas.Result.{err_from_is_err_and}
use Rattle.snd_network.proofs.Finding.{all-push, known_more, item_unknown, taken_next, all_taken}
use Rattle.snd_network.proofs.resolve.find_all.Goals as goal

pub loop-item-init : goal.loop-item-init
loop-item-init g c = record {
  found = rw c.new-found.ensures.items tt;
  known = refl;
  whole = sym c.into_iter-item-iterator.ensures.into_iter_gives.0;
  count = omega (arith, c.into_iter-item-iterator.ensures.into_iter_gives.1, c.args.items.ok.0, ap length c.into_iter-item-iterator.ensures.into_iter_gives.0);
}

pub returns-in_err-record-clause-unknown : goal.returns-in_err-record-clause-unknown
returns-in_err-record-clause-unknown g c =
    let steps = rw c.in-Some.is at c.next.ensures.steps in
    let whole = taken_next _ _ _ _ _ c.loop-item.invariant.whole steps.0 in
    let p = err_from_is_err_and c.from_residual.result c.from_residual.ensures.1 in
    rw (p.1, p.2) (item_unknown g.P.Part.ends c.args.names.now c.args.items.items c.loop-item.yielded (into_iter_items c.next.new.self) c.in-Some.item _ whole c.loop-item.invariant.known c.in_err-record.ensures.unknown)

pub loop-item-preserved : goal.loop-item-preserved
loop-item-preserved g c =
    let steps = rw c.in-Some.is at c.next.ensures.steps in
    let done = c.loop-item.yielded in
    record {
      found = rw c.in_ok-push.ensures.items (all-push (g.P.Part.is_found c.args.names.now) done c.loop-item.found.items c.in-Some.item c.in_ok-record.record c.loop-item.invariant.found c.in_ok-record.ensures.found);
      known = known_more g.P.Part.ends c.args.names.now done c.in-Some.item c.loop-item.invariant.known c.in_ok-record.ensures.known;
      whole = taken_next _ _ _ _ _ c.loop-item.invariant.whole steps.0 ∙ sym (append_assoc done (c.in-Some.item ∷ []) (into_iter_items c.next.new.self));
      count = omega (arith, c.loop-item.invariant.count, steps.1, ap length steps.0);
    }

pub returns-clause-found : goal.returns-clause-found
returns-clause-found g c =
    let steps = rw c.in-None.is at c.next.ensures.steps in
    let all = all_taken _ _ _ c.loop-item.invariant.whole (omega (arith, c.loop-item.invariant.count, steps.0)) in
    rw (c.from_vec.ensures, all) c.loop-item.invariant.found

pub returns-clause-known : goal.returns-clause-known
returns-clause-known g c =
    let steps = rw c.in-None.is at c.next.ensures.steps in
    let all = all_taken _ _ _ c.loop-item.invariant.whole (omega (arith, c.loop-item.invariant.count, steps.0)) in
    rw all c.loop-item.invariant.known
