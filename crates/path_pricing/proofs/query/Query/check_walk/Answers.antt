use Rattle.std.proofs.Common.{◌≡◌, Bool, length, refl, ap, ◌∙◌, arith}
use Rattle.std.proofs.lemmas.Result.{err_from_is_err_and}
use Rattle.plan_base.specs.Arcs.{no_arc}
use Rattle.plan_base.specs.First.{when}
use Rattle.plan_base.proofs.WalkLaws.{IsWalk-begin, IsWalk-next}
use Rattle.arc_restrict.specs.Rows.{forbids}
use Rattle.path_pricing.specs.declared.priced.Unfit.TheVariants.{NotPermitted}
use Rattle.path_pricing.proofs.PlaceLaws.{place-short}
use Rattle.path_pricing.proofs.WalkLaws.{walk-stops, walk-goes_on, walk_fault-none}
use Rattle.path_pricing.proofs.WalkEnds.{walk_fault-place, walk_fault-end}
use Rattle.path_pricing.proofs.query.Query.check_walk.Goals as goal

-- a walk without a fault has fewer arcs than there are nodes
pub overflow_cast-place : goal.overflow_cast-place
overflow_cast-place c =
    omega (arith, place-short c.args.self.now.inst.now c.args.demand.now (forbids c.args.self.now.restriction.now c.args.self.now.demand.0) c.args.arcs.now c.loop-place.place c.requires.lawful c.requires.source (omega arith) c.loop-place.invariant.no_fault)

pub overflow_cast-result : goal.overflow_cast-result
overflow_cast-result c =
    omega (arith, place-short c.args.self.now.inst.now c.args.demand.now (forbids c.args.self.now.restriction.now c.args.self.now.demand.0) c.args.arcs.now c.loop-place.place c.requires.lawful c.requires.source (omega arith) c.loop-place.invariant.no_fault)

pub loop-place-init : goal.loop-place-init
loop-place-init c = record {
  no_fault = refl;
  walk = IsWalk-begin c.args.self.now.inst.now c.args.demand.now.source c.args.arcs.now c.begin.new.self c.requires.source c.begin.ensures;
}

pub returns-in_err-here : goal.returns-in_err-here
returns-in_err-here c =
    let p = c.args.self.now.inst.now in
    let d = c.args.demand.now in
    let allowed = forbids c.args.self.now.restriction.now c.args.self.now.demand.0 in
    let failed = err_from_is_err_and c.from_residual.result c.from_residual.ensures.1 in
    rw (failed.1, failed.2) (walk_fault-place p d allowed c.args.arcs.now c.in_err-here.field-0.0
    (walk-stops p d allowed c.args.arcs.now c.loop-place.place c.loop-place.here.0 c.loop-place.met no_arc c.in_err-here.field-0.0 c.loop-place.invariant.walk (omega arith) c.loop-place.invariant.no_fault c.in_err-here.ensures.fault))

pub loop-place-preserved : goal.loop-place-preserved
loop-place-preserved c =
    let p = c.args.self.now.inst.now in
    let allowed = forbids c.args.self.now.restriction.now c.args.self.now.demand.0 in
    record {
      no_fault = walk-goes_on p c.args.demand.now allowed c.args.arcs.now c.loop-place.place c.loop-place.here.0 c.loop-place.met no_arc c.loop-place.invariant.walk (omega arith) c.loop-place.invariant.no_fault c.in_ok-here.ensures.fault;
      walk = IsWalk-next p c.args.self.now.demand c.args.demand.now.source c.args.arcs.now c.loop-place.place c.loop-place.here.0 c.loop-place.met c.next_node.new.met no_arc
          c.in_ok-here.here c.requires.lawful c.loop-place.invariant.walk (omega arith)
          (walk_fault-none p c.args.self.now.demand allowed c.loop-place.met c.loop-place.here.0 c.loop-place.place _ c.in_ok-here.ensures.fault) c.in_ok-here.ensures.next c.in_ok-here.ensures.met;
    }

pub returns-then-ne : goal.returns-then-ne
returns-then-ne c =
    let all : c.loop-place.place ≡ length c.args.arcs.now = omega arith in
    ap (λ (b : Bool). when b (NotPermitted (length c.args.arcs.now))) c.if-ne.ensures
    ∙ walk_fault-end c.args.self.now.inst.now c.args.demand.now (forbids c.args.self.now.restriction.now c.args.self.now.demand.0) c.args.arcs.now c.loop-place.place c.loop-place.here.0 c.loop-place.invariant.no_fault all c.loop-place.invariant.walk.stands

pub returns : goal.returns
returns c =
    let all : c.loop-place.place ≡ length c.args.arcs.now = omega arith in
    ap (λ (b : Bool). when b (NotPermitted (length c.args.arcs.now))) c.if-ne.ensures
    ∙ walk_fault-end c.args.self.now.inst.now c.args.demand.now (forbids c.args.self.now.restriction.now c.args.self.now.demand.0) c.args.arcs.now c.loop-place.place c.loop-place.here.0 c.loop-place.invariant.no_fault all c.loop-place.invariant.walk.stands
