use Rattle.std.proofs.Common.{Vec, Global, rules}
use Rattle.std.proofs.lemmas.Result.{IfOk-weaker}
use Rattle.std.proofs.lemmas.List.Sorted.{IsPermutation-trans, IsNonDecreasingBy-from_sort_by_key}
use Rattle.block_deques.specs.declared.block.Block.{Block}
use Rattle.block_deques.specs.Decks.{number_of, put_by, taken_by}
use Rattle.block_deques.proofs.Sorts.{in_order, same_moved, once_moved}
use Rattle.block_deques.proofs.gathering.gather_decks.Goals as goal

pub gather_in_order-requires : goal.gather_in_order-requires
gather_in_order-requires c =
    let sort = c.sort_unstable_by_key.ensures in
    in_order c.requires.ordered _ c.requires.making (IsPermutation-trans _ _ _ c.requires.same sort.permutation) (IsNonDecreasingBy-from_sort_by_key number_of _ sort.sorted (λ a r q k. search rules))

pub returns-clause-whole : goal.returns-clause-whole
returns-clause-whole c = IfOk-weaker {X = Vec Block Global} _ _ _ (λ left same. same_moved put_by taken_by c.args.decks.items _ left.items c.sort_unstable_by_key.ensures.permutation same) c.gather_in_order.ensures.whole

pub returns-clause-once : goal.returns-clause-once
returns-clause-once c = once_moved put_by c.args.decks.items _ c.sort_unstable_by_key.ensures.permutation c.gather_in_order.ensures.once
