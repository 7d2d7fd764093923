use Rattle.std.proofs.Common.{◌<◌, length, ◌∙◌}
use Rattle.std.proofs.lemmas.List.{get_or_default}
use Rattle.plan_base.specs.Arcs.{no_arc}
use Rattle.second_path.proofs.Visits.{visit_more}
use Rattle.second_path.proofs.search.Search.visit.Goals as goal

pub loop-arc-preserved : goal.loop-arc-preserved
loop-arc-preserved c =
    let arcs = c.leaving-arc-items.result.now in
    let within : c.loop-arc.arc-index < length arcs = c.loop-arc-test.true in (
      visit_more c.args.ways.now.inst.now _ c.args.node.0 arcs c.loop-arc.arc-index _ c.args.self.now.met.items c.loop-arc.self.met.items c.arrive.new.self.met.items c.args.self.now.arrivals.items c.loop-arc.self.arrivals.items c.arrive.new.self.arrivals.items
          c.leaving-arc-items.ensures.value within (get_or_default arcs c.loop-arc.arc-index _ no_arc within) c.loop-arc.invariant.0 c.in_ok-arrive.ensures.arrival,
      c.in_ok-arrive.ensures.nodes,
      c.in_ok-arrive.ensures.blocked ∙ c.loop-arc.invariant.2,
    )
