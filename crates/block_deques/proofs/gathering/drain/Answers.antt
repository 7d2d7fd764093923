use Rattle.std.proofs.Common.{ap, ◌∙◌}
use Rattle.crossbeam_deque.specs.Handles.{worker_view}
use Rattle.block_deques.specs.declared.block.Hand.{Hand}
use Rattle.block_deques.proofs.Moves.{drains, finds_none}
use Rattle.block_deques.proofs.Drains.{one_left}
use Rattle.block_deques.proofs.gathering.drain.Goals as goal

pub pop_as-requires-clause-fifo : goal.pop_as-requires-clause-fifo
pop_as-requires-clause-fifo c _ = drains _ _ c.loop-block.invariant.owner c.loop-block.invariant.parts

pub pop_as-requires-clause-empty : goal.pop_as-requires-clause-empty
pop_as-requires-clause-empty c = finds_none _ _ c.loop-block.invariant.owner c.loop-block.invariant.parts

pub loop-block-preserved : goal.loop-block-preserved
loop-block-preserved c =
    let inv = c.loop-block.invariant in
    let told = c.in-Some.ensures.rule.0 in
    let took = told.0 in record {
      flavor = c.in-Some.ensures.same.0.1 ∙ inv.flavor;
      owner = ap (λ (v : Hand). v.owner) took ∙ inv.owner;
      parts = ap (λ (v : Hand). v.parts) took ∙ inv.parts;
      put = ap (λ (v : Hand). v.put) took ∙ inv.put;
      sums = one_left (worker_view c.args.owner) (worker_view c.loop-block.owner) (worker_view c.pop_as.new.self) _ c.loop-block.left.items _ c.in-Some.block told c.in_ok-push.ensures.items inv.sums;
    }
