use Rattle.std.proofs.Common.{◌≡◌, true, false, slice_index, subst, sym, ◌∙◌, arith}
use Rattle.plan_base.specs.Places.{places}
use Rattle.plan_base.specs.Designs.{load_at}
use Rattle.completions.specs.Completions.{AreInside}
use Rattle.completions.proofs.CompletionLaws.{outside-here, inside-next}
use Rattle.completions.proofs.completing.outside_link.Goals as goal

pub loads_of-loads-requires-clause-paths : goal.loads_of-loads-requires-clause-paths
loads_of-loads-requires-clause-paths c = c.requires.paths.count

pub loads_of-loads-requires-clause-simple : goal.loads_of-loads-requires-clause-simple
loads_of-loads-requires-clause-simple c = c.requires.paths.simple

pub returns-then-not-is_in-clause-some : goal.returns-then-not-is_in-clause-some
returns-then-not-is_in-clause-some c =
    let p = c.args.inst.now in
    let q = c.loop-place.place in
    let is_load : slice_index c.loads_of-loads.result q ≡ load_at p c.args.design.now q = c.loads_of-loads.ensures.value q (omega arith) in
    outside-here p c.args.ranges.now c.args.design.now q (slice_index c.loads_of-loads.result q) is_load c.link_of_place.result.0 (omega arith) c.link_of_place.ensures.value
    (λ inside. let bad : false ≡ true = sym c.if-not-is_in.true ∙ c.is_in.ensures.1 inside in cc)

pub loop-place-preserved : goal.loop-place-preserved
loop-place-preserved c =
    let p = c.args.inst.now in
    let q = c.loop-place.place in
    let is_load : slice_index c.loads_of-loads.result q ≡ load_at p c.args.design.now q = c.loads_of-loads.ensures.value q (omega arith) in
    inside-next p c.args.ranges.now c.args.design.now q (slice_index c.loads_of-loads.result q) is_load (c.is_in.ensures.0 c.if-not-is_in.false) c.loop-place.invariant

pub returns-clause-none : goal.returns-clause-none
returns-clause-none c =
    let all : c.loop-place.place ≡ places c.args.inst.now = omega (arith, c.loop-place-test.false, c.loop-place.auto.place-end, c.places-place-end.ensures.value) in
    subst (AreInside c.args.inst.now c.args.ranges.now c.args.design.now.paths) all c.loop-place.invariant
