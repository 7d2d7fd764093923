use Rattle.std.proofs.Common.{arith}
use Rattle.link_steps.proofs.TallyLaws.{least-counted}
use Rattle.link_steps.proofs.rated.least_counted.Goals as goal

pub overflow_mul-result : goal.overflow_mul-result
overflow_mul-result c = omega (arith, (least-counted c.args.batch c.args.load c.part-count.result c.requires c.part-count.ensures.value (omega (arith, c.if-count-eq0.false))).within, c.ranges.load.fits)

pub overflow_add-result : goal.overflow_add-result
overflow_add-result c = omega (arith, (least-counted c.args.batch c.args.load c.part-count.result c.requires c.part-count.ensures.value (omega (arith, c.if-count-eq0.false))).within, c.ranges.load.fits)

pub overflow_add-result-2 : goal.overflow_add-result-2
overflow_add-result-2 c = omega (arith, (least-counted c.args.batch c.args.load c.part-count.result c.requires c.part-count.ensures.value (omega (arith, c.if-count-eq0.false))).within, c.ranges.load.fits)

pub overflow_add-result-3 : goal.overflow_add-result-3
overflow_add-result-3 c = omega (arith, (least-counted c.args.batch c.args.load c.part-count.result c.requires c.part-count.ensures.value (omega (arith, c.if-count-eq0.false))).within, c.ranges.load.fits)

pub returns : goal.returns
returns c = least-counted c.args.batch c.args.load c.part-count.result c.requires c.part-count.ensures.value (omega (arith, c.if-count-eq0.false))
