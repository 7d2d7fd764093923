use Rattle.std.proofs.Common.{arith}
use Rattle.plan_base.specs.Arcs.{no_arc}
use Rattle.plan_base.specs.Places.{place_of}
use Rattle.plan_base.proofs.AddedLoads.{added-next}
use Rattle.plan_base.proofs.loads.add_load.Goals as goal

pub loop-arc-preserved : goal.loop-arc-preserved
loop-arc-preserved c =
    rw c.place.ensures.value (added-next (place_of c.args.inst.now) c.loop-arc.loads c.args.loads.now c.args.arcs.now c.args.load c.loop-arc.arc-index no_arc c.requires.once (omega arith) (omega arith) c.loop-arc.invariant)
