use Rattle.std.proofs.Common.{◌≡◌, ◌<◌, length, subst, arith}
use Rattle.completions.specs.Completions.{CarryLoads}
use Rattle.completions.proofs.CompletionLaws.{HasLoads, loads-read, overfull-here, carry-next}
use Rattle.completions.proofs.completing.overfull_link.Goals as goal

pub returns-then-not-can_carry-clause-some : goal.returns-then-not-can_carry-clause-some
returns-then-not-can_carry-clause-some c =
    let within : c.loop-place.place < length c.args.table.now.links = omega (arith, rw c.instance-inst.ensures.inst at c.links-place-end.ensures.value) in
    let held : HasLoads c.args.table.now c.args.design.now c.loop-place.place c.of_link-held.result =
    loads-read c.args.table.now c.args.design.now c.loop-place.place c.of_link-held.result c.loads_of-loads.result (rw c.instance-inst.ensures.inst at c.links-place-end.ensures.lawful) within
    (rw c.instance-inst.ensures.inst at c.loads_of-loads.ensures.value) (rw c.instance-inst.ensures.inst at c.of_link-held.ensures.there) (rw c.instance-inst.ensures.inst at c.of_link-held.ensures.back) in
    overfull-here c.args.table.now c.args.design.now c.loop-place.place c.of_link-held.result within held (c.can_carry.ensures.no c.if-not-can_carry.true) c.loop-place.invariant

pub loop-place-preserved : goal.loop-place-preserved
loop-place-preserved c =
    let within : c.loop-place.place < length c.args.table.now.links = omega (arith, rw c.instance-inst.ensures.inst at c.links-place-end.ensures.value) in
    let held : HasLoads c.args.table.now c.args.design.now c.loop-place.place c.of_link-held.result =
    loads-read c.args.table.now c.args.design.now c.loop-place.place c.of_link-held.result c.loads_of-loads.result (rw c.instance-inst.ensures.inst at c.links-place-end.ensures.lawful) within
    (rw c.instance-inst.ensures.inst at c.loads_of-loads.ensures.value) (rw c.instance-inst.ensures.inst at c.of_link-held.ensures.there) (rw c.instance-inst.ensures.inst at c.of_link-held.ensures.back) in
    carry-next c.args.table.now c.args.design.now c.loop-place.place c.of_link-held.result within held (c.can_carry.ensures.yes c.if-not-can_carry.false) c.loop-place.invariant

pub loads_of-loads-requires-clause-paths : goal.loads_of-loads-requires-clause-paths
loads_of-loads-requires-clause-paths c = rw c.instance-inst.ensures.inst c.requires.paths.count

pub loads_of-loads-requires-clause-simple : goal.loads_of-loads-requires-clause-simple
loads_of-loads-requires-clause-simple c = rw c.instance-inst.ensures.inst c.requires.paths.simple

pub returns-clause-none : goal.returns-clause-none
returns-clause-none c =
    let all : c.loop-place.place ≡ length c.args.table.now.links = omega (arith, c.loop-place-test.false, c.loop-place.auto.place-end, rw c.instance-inst.ensures.inst at c.links-place-end.ensures.value) in
    subst (CarryLoads c.args.table.now c.args.design.now.paths) all c.loop-place.invariant
