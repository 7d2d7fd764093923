use Rattle.std.proofs.Common.{◌≡◌, ℕ, ◌≤◌, ◌∙◌, List, length, take, drop, ap, subst, sym, arith}
use Rattle.plan_merge.specs.declared.bounded_record.BoundedRecord.{BoundedRecord}
use Rattle.plan_merge.proofs.Counting.{merging-same, merging-apart, drop-shorter}
use Rattle.plan_merge.proofs.merging.merge.Goals as goal

shorter : (n : ℕ) (xs ys : List BoundedRecord) (bound : ℕ) → ys ≡ drop n xs → length xs ≤ bound → length ys ≤ bound
shorter n xs ys bound is within = subst (λ (zs : List BoundedRecord). length zs ≤ bound) (sym is) (let fewer = drop-shorter n xs in omega arith)

pub loop-ones-preserved-then-same_split : goal.loop-ones-preserved-then-same_split
loop-ones-preserved-then-same_split c = (
  merging-same c.args.one.now c.args.other.now c.loop-ones.all.items c.loop-ones.ones.now c.loop-ones.others.now c.push.new.self.items c.split_at.result.1.now c.split_at-then-same_split.result.1.now
      c.index-ones-0.result c.index-others-0.result c.index-ones-0-then-same_split.result c.in_ok-copy.field-0 c.loop-ones.invariant.0 (omega (arith, c.loop-ones-test.true)) (omega (arith, c.if-others-eq0.false))
      (sym c.same_split.ensures ∙ c.if-same_split.true) (c.in_ok-copy.ensures ∙ c.index-ones-0-then-same_split.is) c.in_ok-push.ensures.items c.split_at.ensures.back c.split_at-then-same_split.ensures.back,
  shorter 1 c.loop-ones.ones.now c.split_at.result.1.now (length c.args.one.now) c.split_at.ensures.back c.loop-ones.invariant.1,
  shorter 1 c.loop-ones.others.now c.split_at-then-same_split.result.1.now (length c.args.other.now) c.split_at-then-same_split.ensures.back c.loop-ones.invariant.2,
)

pub loop-ones-preserved : goal.loop-ones-preserved
loop-ones-preserved c = (
  merging-apart c.args.one.now c.args.other.now c.loop-ones.all.items c.loop-ones.ones.now c.loop-ones.others.now c.push_all.new.into.items c.split_at-else-same_split.result.0.now c.split_at-else-same_split-2.result.0.now c.better_of.result.now
      c.split_at-else-same_split.result.1.now c.split_at-else-same_split-2.result.1.now c.index-ones-0.result c.index-others-0.result c.loop-ones.invariant.0 (omega (arith, c.loop-ones-test.true)) (omega (arith, c.if-others-eq0.false))
      (sym c.same_split.ensures ∙ c.if-same_split.false)
      (c.split_at-else-same_split.ensures.front ∙ ap (λ (n : ℕ). take n c.loop-ones.ones.now) c.first_length.ensures.value)
      (c.split_at-else-same_split-2.ensures.front ∙ ap (λ (n : ℕ). take n c.loop-ones.others.now) c.first_length-else-same_split.ensures.value)
      c.better_of.ensures c.in_ok-push_all.ensures
      (c.split_at-else-same_split.ensures.back ∙ ap (λ (n : ℕ). drop n c.loop-ones.ones.now) c.first_length.ensures.value)
      (c.split_at-else-same_split-2.ensures.back ∙ ap (λ (n : ℕ). drop n c.loop-ones.others.now) c.first_length-else-same_split.ensures.value),
  shorter c.first_length.result c.loop-ones.ones.now c.split_at-else-same_split.result.1.now (length c.args.one.now) c.split_at-else-same_split.ensures.back c.loop-ones.invariant.1,
  shorter c.first_length-else-same_split.result c.loop-ones.others.now c.split_at-else-same_split-2.result.1.now (length c.args.other.now) c.split_at-else-same_split-2.ensures.back c.loop-ones.invariant.2,
)
