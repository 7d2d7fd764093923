use Rattle.std.proofs.Common.{arith}
use Rattle.plan_base.specs.Arcs.{no_arc}
use Rattle.plan_base.proofs.PathLaws.{walk-short}
use Rattle.plan_base.proofs.WalkLaws.{walk-goes_on, IsWalk-next}
use Rattle.plan_base.proofs.walks.check_path.Goals as goal

-- a walk without a fault has fewer arcs than there are nodes
pub overflow_cast-place : goal.overflow_cast-place
overflow_cast-place c =
    omega (arith, walk-short c.args.inst.now c.args.id c.args.demand.now.source c.args.arcs.now c.loop-place.place c.requires.lawful c.requires.source (omega arith) c.loop-place.invariant.no_fault)

pub overflow_cast-result : goal.overflow_cast-result
overflow_cast-result c =
    omega (arith, walk-short c.args.inst.now c.args.id c.args.demand.now.source c.args.arcs.now c.loop-place.place c.requires.lawful c.requires.source (omega arith) c.loop-place.invariant.no_fault)

pub loop-place-preserved : goal.loop-place-preserved
loop-place-preserved c =
    record {
      no_fault = walk-goes_on c.args.inst.now c.args.id c.args.demand.now.source c.args.arcs.now c.loop-place.place c.loop-place.here.0 c.loop-place.met no_arc c.loop-place.invariant.walk (omega arith) c.loop-place.invariant.no_fault c.in_ok-here.ensures.fault;
      walk = IsWalk-next c.args.inst.now c.args.id c.args.demand.now.source c.args.arcs.now c.loop-place.place c.loop-place.here.0 c.loop-place.met c.next_node.new.met no_arc
          c.in_ok-here.here c.requires.lawful c.loop-place.invariant.walk (omega arith) c.in_ok-here.ensures.fault c.in_ok-here.ensures.next c.in_ok-here.ensures.met;
    }

pub returns-clause-short : goal.returns-clause-short
returns-clause-short c =
    omega (arith, walk-short c.args.inst.now c.args.id c.args.demand.now.source c.args.arcs.now c.loop-place.place c.requires.lawful c.requires.source (omega arith) c.loop-place.invariant.no_fault)
