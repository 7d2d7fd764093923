use Rattle.std.proofs.Common.{◌≡◌, sym, ap, ◌∙◌, refl}
use Rattle.std.proofs.lemmas.List.{take_all}
use Rattle.std.proofs.lemmas.List.Elements.{All-more}
use Rattle.plan_base.specs.declared.ids.NodeId.{NodeId}
use Rattle.plan_base.specs.Arcs.{tail_of}
use Rattle.cert_verifier.proofs.splits.leave.Goals as goal

pub loop-arc-preserved : goal.loop-arc-preserved
loop-arc-preserved c =
    All-more (λ a. (tail_of c.args.inst.now a).0 ≡ c.args.node.0) c.args.arcs.now c.loop-arc.arc-index _ c.loop-arc-test.true c.loop-arc.invariant
    (ap (λ (n : NodeId). n.0) (sym c.tail.ensures.value) ∙ c.if-tail-node.false)

pub returns : goal.returns
returns c = (λ _. rw (← take_all c.loop-arc.arc-index c.args.arcs.now c.loop-arc-test.false) c.loop-arc.invariant, λ _. refl)
