use Rattle.std.proofs.Common.{ℕ, List, sym, subst}
use Rattle.plan_of_search.proofs.PlanNumbers.{IsWriting, written-next, written-falls}
use Rattle.plan_of_search.proofs.records.preorder.Goals as goal

pub loop-number-smaller : goal.loop-number-smaller
loop-number-smaller c =
    written-falls c.args.nodes.now c.loop-number.order.items c.loop-number.waiting.items c.pop.new.self.items c.await_children.new.waiting.items c.in-Some.number c.index-nodes-number.result
    c.requires.children c.loop-number.invariant c.in-Some.ensures.items c.index-nodes-number.is c.in_ok-await_children.ensures

pub loop-number-preserved : goal.loop-number-preserved
loop-number-preserved c =
    subst (λ (order : List ℕ). IsWriting c.args.nodes.now order c.await_children.new.waiting.items) (sym c.in_ok-push.ensures.items)
    (written-next c.args.nodes.now c.loop-number.order.items c.loop-number.waiting.items c.pop.new.self.items c.await_children.new.waiting.items c.in-Some.number c.index-nodes-number.result
    c.requires.children c.loop-number.invariant c.in-Some.ensures.items c.index-nodes-number.is c.in_ok-await_children.ensures)
