use Rattle.std.proofs.Common.{get_or, List, subst, arith, refl}
use Rattle.std.proofs.lemmas.List.{take_all}
use Rattle.plan_base.specs.declared.ids.ArcId.{ArcId}
use Rattle.plan_base.specs.Arcs.{no_arc}
use Rattle.demand_routing.specs.Traffic.{AreRises}
use Rattle.demand_routing.proofs.TrafficLaws.{rises-next}
use Rattle.demand_routing.proofs.weights.rise_along.Goals as goal

pub loop-arc-preserved : goal.loop-arc-preserved
loop-arc-preserved c = record {
  held = rw c.instance-inst.ensures.inst at c.hold.ensures;
  are_rises = rises-next c.args.table.now c.args.loads.now c.args.load 340282366920938463463374607431768211455 c.loop-arc.sum c.in_ok-rise.rise.cost c.saturating_add-sum.result c.loop-arc.arc-index c.args.arcs.now
      (get_or c.args.arcs.now c.loop-arc.arc-index no_arc) (omega arith) refl c.loop-arc.invariant.are_rises (rw (c.place-place.ensures.value, c.instance-inst.ensures.inst) at c.in_ok-rise.ensures.value) c.saturating_add-sum.ensures;
}

pub returns-in_err-rise-clause-none : goal.returns-in_err-rise-clause-none
returns-in_err-rise-clause-none c =
    rw c.from_residual.ensures record { place = c.loop-arc.arc-index; within = omega arith; too_much = rw (c.place-place.ensures.value, c.instance-inst.ensures.inst) at c.in_err-rise.ensures.none }

pub returns-clause-sum : goal.returns-clause-sum
returns-clause-sum c =
    subst (λ (arcs : List ArcId). AreRises c.args.table.now c.args.loads.now c.args.load arcs 340282366920938463463374607431768211455 c.loop-arc.sum)
    (take_all c.loop-arc.arc-index c.args.arcs.now (omega arith)) c.loop-arc.invariant.are_rises
