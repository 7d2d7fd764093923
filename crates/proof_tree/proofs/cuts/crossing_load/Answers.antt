use Rattle.std.proofs.Common.{suc, arith}
use Rattle.proof_tree.proofs.CutChecks.{crossing-le-total}
use Rattle.proof_tree.proofs.cuts.crossing_load.Goals as goal

pub overflow_add-total : goal.overflow_add-total
overflow_add-total c =
    let next = crossing-le-total c.args.inst.now c.args.nodes.now (suc c.loop-place.place) (omega arith) in
    omega (arith, c.loop-place.invariant, c.crossing_from-total.ensures, next, c.demands-place-end.ensures.lawful.total)

pub returns-clause-within : goal.returns-clause-within
returns-clause-within c =
    let few = crossing-le-total c.args.inst.now c.args.nodes.now c.loop-place.place (omega arith) in
    omega (arith, c.loop-place.invariant, few, c.demands-place-end.ensures.lawful.total)
