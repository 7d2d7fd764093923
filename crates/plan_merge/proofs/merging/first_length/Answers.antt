use Rattle.std.proofs.Common.{◌-◌, ◌∙◌, ap, sym, arith}
use Rattle.plan_merge.specs.declared.bounded_record.BoundedRecord.{BoundedRecord}
use Rattle.plan_merge.specs.Merging.{trees_behind}
use Rattle.plan_merge.proofs.Counting.{counting-next}
use Rattle.plan_merge.proofs.merging.first_length.Goals as goal

pub loop-place-preserved : goal.loop-place-preserved
loop-place-preserved c =
    counting-next c.args.nodes.now c.loop-place.left c.trees_behind-left.result c.loop-place.place c.index-nodes-place.result c.loop-place.invariant
    (omega (arith, c.if-left-eq0.false)) (omega (arith, c.loop-place-test.true)) c.index-nodes-place.is
    (c.trees_behind-left.ensures ∙ ap (λ (x : BoundedRecord). trees_behind (c.loop-place.left - 1) x.node) (sym c.index-nodes-place.is))
