use Rattle.std.proofs.Common.{arith}
use Rattle.plan_merge.proofs.Counting.{differ-false}
use Rattle.plan_merge.proofs.merging.same_arcs.Goals as goal

pub returns-then-one-other : goal.returns-then-one-other
returns-then-one-other c = differ-false c.args.one.now c.args.other.now (λ same. omega (arith, c.if-one-other.true, same))
