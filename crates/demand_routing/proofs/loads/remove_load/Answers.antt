use Rattle.std.proofs.Common.{slice_index, arith}
use Rattle.plan_base.specs.Arcs.{no_arc}
use Rattle.demand_routing.proofs.TrafficLaws.{removed-next}
use Rattle.demand_routing.proofs.loads.remove_load.Goals as goal

pub loop-arc-preserved : goal.loop-arc-preserved
loop-arc-preserved c = λ q within.
    removed-next c.args.inst.now q (slice_index c.args.loads.now q) (slice_index c.remove_at.new.loads q) (slice_index c.loop-arc.loads q) c.args.load
    c.args.arcs.now c.loop-arc.arc-index no_arc (omega arith) (c.loop-arc.invariant q within) (rw c.place.ensures.value at c.remove_at.ensures q within)
