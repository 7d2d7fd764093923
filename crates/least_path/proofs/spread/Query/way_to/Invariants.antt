use Rattle.least_path.proofs.WayLaws.{IsReadBack}
use Rattle.least_path.proofs.spread.Query.way_to.Given as goal

abbrev pub invariant-loop-here : goal.invariant-loop-here
invariant-loop-here g l = IsReadBack l.self.inst.now l.labels l.last.label l.here l.arcs.items

abbrev pub decreases-loop-here : goal.decreases-loop-here
decreases-loop-here g l = l.here.steps
