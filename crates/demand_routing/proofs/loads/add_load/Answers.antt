use Rattle.std.proofs.Common.{slice_index, arith}
use Rattle.plan_base.specs.Arcs.{no_arc}
use Rattle.demand_routing.proofs.TrafficLaws.{added-next}
use Rattle.demand_routing.proofs.loads.add_load.Goals as goal

pub loop-arc-preserved : goal.loop-arc-preserved
loop-arc-preserved c = λ q within.
    added-next c.args.inst.now q (slice_index c.args.loads.now q) (slice_index c.add_at.new.loads q) (slice_index c.loop-arc.loads q) c.args.load 340282366920938463463374607431768211455
    c.args.arcs.now c.loop-arc.arc-index no_arc (omega arith) (c.loop-arc.invariant q within) (rw c.place.ensures.value at c.add_at.ensures q within)
