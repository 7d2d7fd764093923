use Rattle.std.proofs.Common.{List, length, ◌<◌, subst, IsPermutation, arith}
use Rattle.std.proofs.lemmas.List.Sorted.{All-permutation}
use Rattle.plan_merge.specs.Choosing.{Key}
use Rattle.plan_merge.proofs.ChoosingLaws.{keys-all, sorted-ahead}
use Rattle.plan_merge.proofs.choosing.ordered.Goals as goal

pub returns-clause-order : goal.returns-clause-order
returns-clause-order c = record {
  leaves = subst (λ (keys : List Key). IsPermutation keys c.sort_unstable.new.self.items)
      (keys-all c.args.records.now c.loop-place.place c.loop-place.keys.items c.loop-place.invariant (omega (arith, c.loop-place-test.false))) c.sort_unstable.ensures.permutation;
  ahead = sorted-ahead c.sort_unstable.new.self.items c.sort_unstable.ensures.sorted;
}

pub returns-clause-within : goal.returns-clause-within
returns-clause-within c = All-permutation (λ (key : Key). key.2 < length c.args.records.now) c.loop-place.keys.items c.sort_unstable.new.self.items c.sort_unstable.ensures.permutation c.loop-place.invariant.within
