use Rattle.std.proofs.Common.{◌≡◌, subst, sym, arith, rules}
use Rattle.std.specs.Prelude.{length, slice_index, ◌≤◌}
use Rattle.plan_base.specs.Facts.{total_load}
use Rattle.plan_base.specs.Designs.{load_at, load_from}
use Rattle.plan_base.specs.Sums.{sum_below}
use Rattle.plan_base.proofs.LoadLaws.{load_at-le-total}
use Rattle.plan_base.specs.declared.limits.TheConstants.{MAX_PLACES}
use Rattle.plan_base.specs.Arcs.{demand_at}
use Rattle.plan_base.specs.Walks.{HasPlacesOnce}
use Rattle.base_items.proofs.MetLaws.{zeros}
use Rattle.plan_base.proofs.AddedLoads.{path-read, HasPlacesOnce-path, part-within, load-next}
use Rattle.plan_base.proofs.loads.loads_of.Goals as goal

pub loop-place-init : goal.loop-place-init
loop-place-init c = λ e within. zeros MAX_PLACES e

pub add_load-requires-clause-once : goal.add_load-requires-clause-once
add_load-requires-clause-once c =
    let same = path-read c.args.design.now c.loop-place.place c.as_slice.result.now c.index-as_slice-place.result c.as_slice-in-loop-place.result.now (omega arith) c.as_slice.ensures.value c.index-as_slice-place.is c.as_slice-in-loop-place.ensures.value in
    subst (HasPlacesOnce c.args.inst.now MAX_PLACES) (sym same) (HasPlacesOnce-path c.args.inst.now c.args.design.now c.loop-place.place c.demands-place-end.ensures.lawful (c.requires.simple c.loop-place.place (omega arith)))

pub add_load-requires-clause-loads : goal.add_load-requires-clause-loads
add_load-requires-clause-loads c = λ e within.
    omega (arith, c.loop-place.invariant e within, part-within c.args.inst.now c.args.design.now e c.loop-place.place c.demands-place-end.ensures.lawful (omega arith))

pub loop-place-preserved : goal.loop-place-preserved
loop-place-preserved c = λ e within.
    let same = path-read c.args.design.now c.loop-place.place c.as_slice.result.now c.index-as_slice-place.result c.as_slice-in-loop-place.result.now (omega arith) c.as_slice.ensures.value c.index-as_slice-place.is c.as_slice-in-loop-place.ensures.value in
    let load : c.demand.result.now.load ≡ (demand_at c.args.inst.now c.loop-place.place).load = search rules in
    load-next c.args.inst.now c.args.design.now e c.loop-place.place _ _ _ _ (c.loop-place.invariant e within) same load (c.add_load.ensures e within)

pub returns-clause-within : goal.returns-clause-within
returns-clause-within c = λ e within.
    let all : c.loop-place.place ≡ length c.args.inst.now.demands = search rules in
    let load : slice_index c.loop-place.loads e ≡ load_at c.args.inst.now c.args.design.now e =
    subst (λ n. slice_index c.loop-place.loads e ≡ sum_below (load_from c.args.inst.now c.args.design.now e) n) all (c.loop-place.invariant e within) in
    subst (λ n. n ≤ total_load c.args.inst.now) (sym load) (load_at-le-total c.args.inst.now c.args.design.now e)
