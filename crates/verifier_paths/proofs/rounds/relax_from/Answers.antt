use Rattle.std.proofs.Common.{◌<◌, ◌+◌, length, subst, arith}
use Rattle.std.proofs.lemmas.List.{get_or_default}
use Rattle.plan_base.specs.declared.ids.ArcId.{ArcId}
use Rattle.plan_base.specs.Arcs.{no_arc}
use Rattle.plan_base.specs.Paths.{arc_at}
use Rattle.plan_base.proofs.PathLaws.{head-within}
use Rattle.verifier_paths.specs.Labels.{open_arcs, IsRelaxed}
use Rattle.verifier_paths.proofs.Offers.{StandsBelow, offered-none, offered-more, offered-leaving, stands-none, stands-parts}
use Rattle.verifier_paths.proofs.LeastPrices.{open_are_arcs}
use Rattle.verifier_paths.proofs.rounds.relax_from.Goals as goal

pub loop-arc-init : goal.loop-arc-init
loop-arc-init c =
    let p = c.args.ways.now.inst.now in
    let takes = open_arcs c.args.ways.now in
    offered-none p takes c.args.prices.now c.args.old.now c.args.new.now.items (StandsBelow c.leaving-arc-items.result.now 0) (stands-none c.leaving-arc-items.result.now)

pub loop-arc-preserved : goal.loop-arc-preserved
loop-arc-preserved c =
    let p = c.args.ways.now.inst.now in
    let takes = open_arcs c.args.ways.now in
    let arcs = c.leaving-arc-items.result.now in
    let i = c.loop-arc.arc-index in
    let within : i < length arcs = c.loop-arc-test.true in
    let read = get_or_default arcs i _ no_arc within in
    offered-more p takes c.args.prices.now c.args.old.now (StandsBelow arcs i) (StandsBelow arcs (i + 1)) (arc_at arcs i) c.args.new.now.items c.loop-arc.new.items c.relax_arc.new.new.items
    (stands-parts arcs i)
    (λ taken. let inside = head-within p (arc_at arcs i) c.lawful.ensures (open_are_arcs c.args.ways.now (arc_at arcs i) taken) in omega (arith, inside, c.loop-arc.invariant.count, c.requires.new))
    (subst (λ (a : ArcId). IsRelaxed p takes c.args.prices.now c.args.old.now a c.loop-arc.new.items c.relax_arc.new.new.items) read c.relax_arc.ensures.relaxed)
    c.loop-arc.invariant

pub returns : goal.returns
returns c =
    let p = c.args.ways.now.inst.now in
    let takes = open_arcs c.args.ways.now in
    let arcs = c.leaving-arc-items.result.now in
    offered-leaving p takes c.args.prices.now c.args.old.now arcs c.args.node.0 c.loop-arc.arc-index c.args.new.now.items c.loop-arc.new.items (open_are_arcs c.args.ways.now) c.leaving-arc-items.ensures.value (omega arith) c.loop-arc.invariant
